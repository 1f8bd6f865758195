use Rattle.std.proofs.Common.{◌∙◌, ap, length, arith}
use Rattle.events.specs.Named.{event_count}
use Rattle.events.proofs.Standing.{stands_item}
use Rattle.events.proofs.Adding.{orders_on, orders_done}
use Rattle.events.proofs.view.numbered.Numbered.coherence_into.Goals as goal

pub loop-order-preserved : goal.loop-order-preserved
loop-order-preserved c =
    let e = c.co-order-items.ensures ∙ ap (λ g. g.co) c.self.view_is in
    orders_on (event_count c.args.self.now) c.args.self.now c.loop-order.order-index c.writes.result.now c.loop-order.rel c.relate_order.new.rel
    (stands_item c.co-order-items.result.now c.args.self.now.co c.loop-order.order-index c.order-item.result c.writes.result.now e c.loop-order-test.true c.order-item.is c.writes.ensures)
    c.loop-order.invariant c.relate_order.ensures

pub returns : goal.returns
returns c =
    let e = c.co-order-items.ensures ∙ ap (λ g. g.co) c.self.view_is in
    orders_done (event_count c.args.self.now) c.args.self.now c.loop-order.order-index c.loop-order.rel (omega (arith, ap length e, c.loop-order-test.false)) c.loop-order.invariant
