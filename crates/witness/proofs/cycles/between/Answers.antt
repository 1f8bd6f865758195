use Rattle.std.proofs.Common.{◌<◌, arith}
use Rattle.relations.specs.Equality.{pair_below}
use Rattle.witness.proofs.cycles.between.Goals as goal

pub returns : goal.returns
returns c = λ m h.
    let s : (c.args.from < c.args.first.now.count) × (m < c.args.first.now.count) = pair_below c.args.first.now c.args.from m c.count-middle-end.ensures.canonical h in
    c.loop-middle.invariant m (omega (arith, s.1, c.loop-middle-test.false, c.count-middle-end.ensures.is)) h
