use Rattle.std.proofs.Common.{List, [], sym, subst, map}
use Rattle.std.specs.Prelude.{reverse}
use Rattle.cat_tree.specs.Terms.{left_by, left_by_all}
use Rattle.cat_model.specs.Marked.{AreTraced}
use Rattle.cat_model.specs.declared.denials.Trace.{Trace}
use Rattle.cat_model.proofs.Standing.{walk_next, walk_end}
use Rattle.cat_model.proofs.Tracing.{pushed_items, traced_whole}
use Rattle.cat_model.proofs.denials.trace_all.Goals as goal

pub loop-node-preserved : goal.loop-node-preserved
loop-node-preserved c =
    let k = c.loop-node.invariant in
    let P : List (List Trace) → Type 0 = λ vs. AreTraced c.args.scope.now.names.items (map (λ x. x.now) c.args.tracked.now) vs (left_by c.node-item.result k.0) in (
      left_by c.node-item.result k.0,
      walk_next c.deref-node-items.result.now c.args.expression.now.nodes.items c.loop-node.node-index c.node-item.result k.0 (left_by_all [] c.args.expression.now.nodes.items) c.deref-node-items.ensures.value c.loop-node-test.true c.node-item.is k.1,
      subst P (sym (pushed_items c.trace_node.new.waiting.items c.push.new.self.items c.in_ok-traces.traces c.in_ok-push.ensures.items)) (c.in_ok-traces.ensures k.0 k.2),
    )

pub returns : goal.returns
returns c =
    let k = c.loop-node.invariant in
    traced_whole c.args.scope.now.names.items (map (λ x. x.now) c.args.tracked.now) c.args.expression.now.nodes.items (reverse (map (λ a. a.items) c.loop-node.waiting.items)) c.latest.result.items k.0 c.args.expression.now.whole c.latest.ensures.value
    (walk_end c.deref-node-items.result.now c.args.expression.now.nodes.items c.loop-node.node-index k.0 (left_by_all [] c.args.expression.now.nodes.items) c.deref-node-items.ensures.value c.loop-node-test.false k.1) k.2
