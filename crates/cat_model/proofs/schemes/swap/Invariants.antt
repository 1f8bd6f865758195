use Rattle.std.proofs.Common.{◌≡◌, ◌++◌, map, take, drop}
use Rattle.cat_model.specs.Classing.{swapped}
use Rattle.cat_model.proofs.schemes.swap.Given as goal

abbrev pub invariant-loop-item : goal.invariant-loop-item
invariant-loop-item l = take l.item-index l.item-items ++ map (swapped l.from l.to) (drop l.item-index l.item-items) ≡ map (swapped l.from l.to) l.fn.items.items
