use Rattle.std.proofs.Common.{◌≡◌, ℕ, ◌<◌, take}
use Rattle.std.specs.Prelude.{Some, slice_get}
use Rattle.wb_text.specs.declared.token.Token.{Token}
use Rattle.cat_syntax.specs.Reads.{IsRefused}
use Rattle.cat_places.proofs.text.last_of_front.Given as goal

abbrev pub invariant-loop-place : goal.invariant-loop-place
invariant-loop-place l = (j : ℕ) (t : Token) → j < l.place → slice_get l.tokens j ≡ Some t → ¬ IsRefused (take t.to l.text) l.fault
