use Rattle.std.proofs.Common.{◌≡◌, map, take}
use Rattle.cat_tree.specs.Tree.{clause_of}
use Rattle.cat_tree.proofs.copying.items_copy.Given as goal

abbrev pub invariant-loop-item : goal.invariant-loop-item
invariant-loop-item l = map clause_of l.copies.items ≡ map clause_of (take l.item-index l.first.items)
