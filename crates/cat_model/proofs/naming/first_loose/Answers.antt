use Rattle.std.proofs.Common.{List, None, refl, subst}
use Rattle.cat_tree.specs.Terms.{term_in}
use Rattle.cat_tree.specs.declared.node.Node.{Node}
use Rattle.cat_model.specs.Along.{IsFirstLoose}
use Rattle.cat_model.proofs.Waiting.{latest_whole, node_more, none_waits}
use Rattle.cat_model.proofs.naming.first_loose.Goals as goal

pub loop-node-preserved : goal.loop-node-preserved
loop-node-preserved c =
    node_more (IsFirstLoose c.args.scope.now.names.items c.args.parameters.now) c.loop-node.waiting.items c.look.new.waiting.items c.deref-node-items.result.now c.loop-node.node-index c.node-item.result c.loop-node-test.true c.node-item.is c.in_ok-look.ensures c.loop-node.invariant

pub loop-node-init : goal.loop-node-init
loop-node-init c = none_waits (IsFirstLoose c.args.scope.now.names.items c.args.parameters.now) c.new-waiting.result.items c.new-waiting.ensures.items

pub returns : goal.returns
returns c =
    let R = IsFirstLoose c.args.scope.now.names.items c.args.parameters.now in
    let P : List Node → Type 0 = λ ns. R c.latest.result (term_in ns) in
    subst P c.deref-node-items.ensures.value (latest_whole R None c.latest.result c.loop-node.waiting.items c.deref-node-items.result.now c.loop-node.node-index refl c.loop-node-test.false c.latest.ensures.value c.loop-node.invariant)
