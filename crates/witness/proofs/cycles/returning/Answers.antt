use Rattle.std.proofs.Common.{◌<◌, arith}
use Rattle.relations.specs.Equality.{pair_below}
use Rattle.witness.proofs.cycles.returning.Goals as goal

pub returns : goal.returns
returns c = λ i h.
    let s : (i < c.args.relation.now.count) × (i < c.args.relation.now.count) = pair_below c.args.relation.now i i c.count-event-end.ensures.canonical h in
    c.loop-event.invariant i (omega (arith, s.0, c.loop-event-test.false, c.count-event-end.ensures.is)) h
