use Rattle.std.proofs.Common.{◌≡◌, map, take}
use Rattle.cat_model.proofs.places.each.Given as goal

abbrev pub invariant-loop-name : goal.invariant-loop-name
invariant-loop-name l = map (λ x. x.now) l.each.items ≡ take l.name-index l.names
