use Rattle.std.proofs.Common.{◌∙◌, rules}
use Rattle.std.proofs.lemmas.List.{take_all}
use Rattle.cat_tree.proofs.Copies.{front_more}
use Rattle.cat_tree.proofs.expression.copying.copy_nodes.Goals as goal

pub loop-node-preserved : goal.loop-node-preserved
loop-node-preserved c =
    let told = front_more c.deref-node-items.result.now c.loop-node.node-index c.node-item.result c.loop-node-test.true c.node-item.is in
    search (rules, told)

pub returns : goal.returns
returns c = c.loop-node.invariant ∙ take_all c.loop-node.node-index c.args.nodes.now.items (rw c.deref-node-items.ensures.value at c.loop-node-test.false)
