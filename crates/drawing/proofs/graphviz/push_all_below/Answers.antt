use Rattle.std.proofs.Common.{◌++◌, ◌∙◌, List, ap, refl}
use Rattle.std.specs.Prelude.{flat_map}
use Rattle.events.specs.declared.event.EventId.{EventId}
use Rattle.drawing.specs.Dots.{below_line}
use Rattle.drawing.proofs.Adding.{added, all_added}
use Rattle.drawing.proofs.graphviz.push_all_below.Goals as goal

pub loop-event-preserved : goal.loop-event-preserved
loop-event-preserved c =
    let F = flat_map (below_line c.args.scene.now) in
    added F F c.deref-event-items.result.now c.loop-event.event-index _ _ c.loop-event.out.items c.push_below.new.out.items _ c.loop-event-test.true refl c.in_ok-push_below.ensures c.loop-event.invariant

pub returns : goal.returns
returns c =
    let F = flat_map (below_line c.args.scene.now) in
    all_added F c.deref-event-items.result.now c.loop-event.event-index c.loop-event.out.items _ c.loop-event-test.false refl c.loop-event.invariant
    ∙ ap (λ (es : List EventId). c.args.out.now.items ++ F es) (c.deref-event-items.ensures.value ∙ c.in_ok-members.ensures)
