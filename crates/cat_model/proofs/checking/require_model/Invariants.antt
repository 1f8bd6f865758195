use Rattle.std.proofs.Common.{map, take}
use Rattle.cat_tree.specs.Tree.{clause_of}
use Rattle.cat_model.specs.Counts.{Stands}
use Rattle.cat_model.proofs.checking.require_model.Given as goal

abbrev pub invariant-loop-item : goal.invariant-loop-item
invariant-loop-item l = Stands l.scope.names.items l.total (take l.item-index (map clause_of l.items))
