use Rattle.std.proofs.Common.{arith}
use Rattle.events.specs.Named.{event_count}
use Rattle.events.proofs.Opening.{free_opened, next_opened}
use Rattle.events.proofs.view.numbered.Numbered.relate_opened.Goals as goal

pub returns-then-location-cut : goal.returns-then-location-cut
returns-then-location-cut c =
    let cut = c.args.cut.now in
    free_opened (event_count c.args.self.now) c.args.self.now cut.locations cut.unplaced.now c.args.location c.args.order.now c.args.rel.now c.relate_order.new.rel c.relate_either_way.new.rel
    (omega (arith, c.if-location-cut.true)) c.later_writes-later.result.now c.later_writes-later.ensures c.relate_order.ensures c.relate_either_way.ensures

pub returns-then-location-cut-2 : goal.returns-then-location-cut-2
returns-then-location-cut-2 c =
    let cut = c.args.cut.now in
    next_opened (event_count c.args.self.now) c.args.self.now cut.locations cut.unplaced.now c.args.location c.args.order.now c.args.rel.now c.relate_order.new.rel
    c.relate_either_way-then-location-cut-2.new.rel (omega (arith, c.if-location-cut-2.true)) c.later_writes-later.result.now c.later_writes-later.ensures c.relate_order.ensures
    c.relate_either_way-then-location-cut-2.ensures
