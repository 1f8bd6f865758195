use Rattle.std.proofs.Common.{◌≡◌, drop}
use Rattle.cat_places.specs.Own.{bound_at, bound_from}
use Rattle.cat_places.proofs.item.bound_at.Given as goal

abbrev pub invariant-loop-token : goal.invariant-loop-token
invariant-loop-token l = bound_from l.text l.name l.at (drop l.token-index l.tokens) ≡ bound_at l.text l.name l.tokens
