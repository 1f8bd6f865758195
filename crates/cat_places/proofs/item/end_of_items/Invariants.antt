use Rattle.std.proofs.Common.{◌≡◌, ◌+◌, ◌≤◌, ℕ, length, take}
use Rattle.std.specs.Prelude.{Some, slice_get}
use Rattle.wb_text.specs.declared.token.Token.{Token}
use Rattle.cat_places.specs.Own.{HasItems}
use Rattle.cat_places.proofs.item.end_of_items.Given as goal

abbrev pub invariant-loop-end : goal.invariant-loop-end
invariant-loop-end l = record {
  within : l.end ≤ length l.tokens;
  longest : (k : ℕ) (t : Token) → l.end ≤ k → slice_get l.tokens k ≡ Some t → ¬ HasItems (take t.to l.text) (l.items + l.more);
}

abbrev pub decreases-loop-end : goal.decreases-loop-end
decreases-loop-end l = l.end
