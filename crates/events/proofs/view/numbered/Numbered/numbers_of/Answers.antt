use Rattle.std.proofs.Common.{get_or, refl, arith}
use Rattle.events.specs.Named.{event_count}
use Rattle.events.specs.declared.event.EventId.TheVariants.{Initial}
use Rattle.events.proofs.Standing.{stands_or}
use Rattle.events.proofs.Cutting.{numbers_on, numbers_done}
use Rattle.events.proofs.view.numbered.Numbered.numbers_of.Goals as goal

pub loop-event-preserved : goal.loop-event-preserved
loop-event-preserved c =
    let es = c.args.events.now in
    let m = c.loop-event.event-index in
    numbers_on (event_count c.args.self.now) c.args.self.now es m (get_or es m (Initial 0)) c.loop-event.numbers c.note.new.numbers
    (stands_or es m (Initial 0) _ c.loop-event-test.true refl) c.loop-event.invariant c.note.ensures

pub returns : goal.returns
returns c = numbers_done (event_count c.args.self.now) c.args.self.now c.args.events.now c.loop-event.event-index c.loop-event.numbers (omega (arith, c.loop-event-test.false)) c.loop-event.invariant
