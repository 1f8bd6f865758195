use Rattle.std.proofs.Common.{◌<◌, arith}
use Rattle.relations.specs.Equality.{event_below}
use Rattle.witness.proofs.explaining.member.Goals as goal

pub returns : goal.returns
returns c = λ i h.
    let s : i < c.args.set.now.count = event_below c.args.set.now i c.count-event-end.ensures.canonical h in
    c.loop-event.invariant i (omega (arith, s, c.loop-event-test.false, c.count-event-end.ensures.is)) h
