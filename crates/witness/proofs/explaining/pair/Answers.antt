use Rattle.std.proofs.Common.{◌<◌, arith}
use Rattle.relations.specs.Equality.{pair_below}
use Rattle.witness.proofs.explaining.pair.Goals as goal

pub returns : goal.returns
returns c = λ i j h.
    let s : (i < c.args.relation.now.count) × (j < c.args.relation.now.count) = pair_below c.args.relation.now i j c.count-from-end.ensures.canonical h in
    c.loop-from.invariant i j (omega (arith, s.0, c.loop-from-test.false, c.count-from-end.ensures.is)) h
