use Rattle.std.proofs.Common.{◌≡◌, take}
use Rattle.cat_tree.proofs.expression.copying.copy_nodes.Given as goal

abbrev pub invariant-loop-node : goal.invariant-loop-node
invariant-loop-node l = l.copies.items ≡ take l.node-index l.nodes.items
