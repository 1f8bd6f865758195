use Rattle.std.proofs.Common.{◌+◌, ◌++◌, List, drop, refl, ap, sym, ◌∙◌}
use Rattle.std.specs.Prelude.{flat_map}
use Rattle.events.specs.declared.event.EventId.{EventId}
use Rattle.drawing.specs.Arrows.{steps}
use Rattle.drawing.proofs.Adding.{added, all_added}
use Rattle.drawing.proofs.arrows.co_arrows.Goals as goal

pub loop-order-preserved : goal.loop-order-preserved
loop-order-preserved c =
    let F = flat_map steps in
    added F F c.args.orders.now c.loop-order.order-index c.order-item.result _ c.loop-order.arrows.items c.push_steps.new.arrows.items _ c.loop-order-test.true
    (ap (λ (es : List EventId). steps es ++ F (drop (c.loop-order.order-index + 1) c.args.orders.now)) (sym c.order-item.is ∙ sym c.writes.ensures))
    c.in_ok-push_steps.ensures c.loop-order.invariant

pub returns : goal.returns
returns c = all_added (flat_map steps) c.args.orders.now c.loop-order.order-index c.loop-order.arrows.items _ c.loop-order-test.false refl c.loop-order.invariant
