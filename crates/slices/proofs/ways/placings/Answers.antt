use Rattle.std.proofs.Common.{◌^◌, arith}
use Rattle.slices.proofs.Chosen.{one_placed}
use Rattle.slices.proofs.ways.placings.Goals as goal

pub overflow_mul-count : goal.overflow_mul-count
overflow_mul-count c =
    let e = one_placed c.args.writes c.loop-placed.placed c.args.opened c.loop-placed.count (2 ^ 32) c.loop-placed.invariant c.loop-placed-test.true c.requires.within c.requires.few in
    let l = e.1 in
    omega (arith, l)

pub loop-placed-preserved : goal.loop-placed-preserved
loop-placed-preserved c = (one_placed c.args.writes c.loop-placed.placed c.args.opened c.loop-placed.count (2 ^ 32) c.loop-placed.invariant c.loop-placed-test.true c.requires.within c.requires.few).0
