use Rattle.std.proofs.Common.{◌≡◌, ℕ, ◌<◌}
use Rattle.std.specs.Prelude.{Some, slice_get}
use Rattle.wb_text.specs.declared.token.Token.{Token}
use Rattle.cat_places.specs.Denied.{IsDenied}
use Rattle.cat_places.proofs.denied.Group.first_denied.Given as goal

abbrev pub invariant-loop-number : goal.invariant-loop-number
invariant-loop-number l = (j : ℕ) (t : Token) → j < l.number → slice_get l.uses j ≡ Some t → ¬ IsDenied l.self.files.now l.self.before.now l.self.item l.self.text.now l.self.uses.now t
