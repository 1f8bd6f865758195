use Rattle.std.proofs.Common.{◌≡◌, map, take}
use Rattle.cat_tree.specs.Tree.{shown_of}
use Rattle.cat_tree.proofs.copying.elements_copy.Given as goal

abbrev pub invariant-loop-element : goal.invariant-loop-element
invariant-loop-element l = map shown_of l.copies.items ≡ map shown_of (take l.element-index l.first.items)
