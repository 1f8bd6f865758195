use Rattle.std.proofs.Common.{arith}
use Rattle.candidates.proofs.Adding.{take_on, drop_on}
use Rattle.candidates.proofs.Kept.{split_sum}
use Rattle.candidates.proofs.choosing.part_from.Goals as goal

pub loop-place-init : goal.loop-place-init
loop-place-init c = record {
  is = omega (arith, c.requires.before, c.requires.order);
  below = omega (arith, c.requires.before, c.requires.order, c.requires.number, split_sum c.args.sizes.now c.args.from);
}

pub loop-place-preserved : goal.loop-place-preserved
loop-place-preserved c =
    let i = c.loop-place.place in
    let l = c.loop-place-test.true in
    record {
      is = omega (arith, c.loop-place.invariant.is, take_on c.args.sizes.now i l, c.if-rest-size.false);
      below = omega (arith, c.loop-place.invariant.below, drop_on c.args.sizes.now i l, c.if-rest-size.false);
    }
