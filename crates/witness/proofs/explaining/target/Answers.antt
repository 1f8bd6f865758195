use Rattle.std.proofs.Common.{◌<◌, arith}
use Rattle.relations.specs.Equality.{pair_below}
use Rattle.witness.proofs.explaining.target.Goals as goal

pub returns : goal.returns
returns c = λ j h.
    let s : (c.args.from < c.args.relation.now.count) × (j < c.args.relation.now.count) = pair_below c.args.relation.now c.args.from j c.count-to-end.ensures.canonical h in
    c.loop-to.invariant j (omega (arith, s.1, c.loop-to-test.false, c.count-to-end.ensures.is)) h
