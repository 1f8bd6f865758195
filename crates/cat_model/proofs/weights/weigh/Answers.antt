use Rattle.std.proofs.Common.{sym, ◌∙◌}
use Rattle.cat_tree.specs.Tree.{term_of}
use Rattle.cat_model.proofs.Trees.{kept_first, kept_more, kept_last}
use Rattle.cat_model.proofs.weights.weigh.Goals as goal

pub loop-last-init : goal.loop-last-init
loop-last-init c =
    kept_first c.args.measure c.args.scope.now.names.items c.args.parameters.now (term_of c.args.expression.now) c.args.weight c.deref-nodes.result.now c.in_ok-tally.tally.weights.items c.in_ok-tally.tally.waiting.items
    (c.deref-nodes.ensures.value ∙ sym c.args.expression.now.whole) c.in_ok-tally.ensures.0 c.in_ok-tally.ensures.1

pub loop-last-preserved : goal.loop-last-preserved
loop-last-preserved c =
    kept_more c.args.measure c.args.scope.now.names.items c.args.parameters.now (term_of c.args.expression.now) c.args.weight c.in-Some.last.now c.loop-last.nodes.now c.in-Some.before.now c.loop-last.tally.weights.items c.loop-last.tally.waiting.items
    c.count_latest.new.tally.weights.items c.count_latest.new.tally.waiting.items c.in-Some.ensures.cases.0 c.in_ok-count_latest.ensures c.loop-last.invariant

pub returns : goal.returns
returns c =
    kept_last c.args.measure c.args.scope.now.names.items c.args.parameters.now (term_of c.args.expression.now) c.args.weight c.loop-last.nodes.now c.loop-last.tally.weights.items c.loop-last.tally.waiting.items c.in_default.ensures.cases c.loop-last.invariant
