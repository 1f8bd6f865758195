use Rattle.std.proofs.Common.{◌≡◌, map, take}
use Rattle.cat_tree.specs.Tree.{defined_of}
use Rattle.cat_tree.proofs.copying.definitions_copy.Given as goal

abbrev pub invariant-loop-definition : goal.invariant-loop-definition
invariant-loop-definition l = map defined_of l.copies.items ≡ map defined_of (take l.definition-index l.first.items)
