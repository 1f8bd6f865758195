use Rattle.std.proofs.Common.{◌∙◌, rules}
use Rattle.std.proofs.lemmas.List.{take_all, take_more}
use Rattle.events.proofs.run.copy_events.Goals as goal

pub loop-event-preserved : goal.loop-event-preserved
loop-event-preserved c =
    let told = take_more c.args.events.now c.loop-event.event-index c.event-item.result c.loop-event-test.true in
    search (rules, told)

pub returns : goal.returns
returns c = c.loop-event.invariant ∙ take_all c.loop-event.event-index c.args.events.now c.loop-event-test.false
