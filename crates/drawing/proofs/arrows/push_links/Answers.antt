use Rattle.std.proofs.Common.{[], ◌∷◌, get_or, refl}
use Rattle.events.specs.declared.event.EventId.TheVariants.{Initial}
use Rattle.drawing.specs.Arrows.{arrow, links}
use Rattle.drawing.proofs.Adding.{added, all_added}
use Rattle.drawing.proofs.arrows.push_links.Goals as goal

pub loop-event-preserved : goal.loop-event-preserved
loop-event-preserved c =
    let e = get_or c.args.others.now c.loop-event.event-index (Initial 0) in
    added (links c.loop-event.last) (links e) c.args.others.now c.loop-event.event-index (Initial 0) (arrow c.loop-event.last e ∷ []) c.loop-event.arrows.items c.push.new.self.items _ c.loop-event-test.true refl c.in_ok-push.ensures.items c.loop-event.invariant

pub returns : goal.returns
returns c = all_added (links c.loop-event.last) c.args.others.now c.loop-event.event-index c.loop-event.arrows.items _ c.loop-event-test.false refl c.loop-event.invariant
