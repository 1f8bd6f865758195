use Rattle.std.proofs.Common.{◌≡◌, map, take}
use Rattle.cat_tree.specs.Tree.{bound_of}
use Rattle.cat_tree.proofs.copying.bindings_copy.Given as goal

abbrev pub invariant-loop-binding : goal.invariant-loop-binding
invariant-loop-binding l = map bound_of l.copies.items ≡ map bound_of (take l.binding-index l.first.items)
