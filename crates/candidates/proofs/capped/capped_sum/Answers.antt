use Rattle.std.proofs.Common.{◌≡◌, ap, drop, arith}
use Rattle.std.proofs.lemmas.List.{drop_all}
use Rattle.listings.specs.Lists.{sum_of}
use Rattle.candidates.proofs.Adding.{drop_on}
use Rattle.candidates.proofs.capped.capped_sum.Goals as goal

pub overflow_sub-sum : goal.overflow_sub-sum
overflow_sub-sum c = c.loop-part.invariant.capped

pub returns-then-part-sum : goal.returns-then-part-sum
returns-then-part-sum c = omega (arith, drop_on c.args.parts.now c.loop-part.part-index c.loop-part-test.true, c.loop-part.invariant.is, c.loop-part.invariant.capped, c.if-part-sum.true)

pub loop-part-preserved : goal.loop-part-preserved
loop-part-preserved c = record { is = omega (arith, drop_on c.args.parts.now c.loop-part.part-index c.loop-part-test.true, c.loop-part.invariant.is); capped = omega (arith, c.loop-part.invariant.capped, c.if-part-sum.false) }

pub returns : goal.returns
returns c =
    let none : sum_of (λ n. n) (drop c.loop-part.part-index c.args.parts.now) ≡ 0 = ap (sum_of (λ n. n)) (drop_all c.loop-part.part-index c.args.parts.now c.loop-part-test.false) in
    (omega (arith, none, c.loop-part.invariant.is), omega (arith, none, c.loop-part.invariant.is, c.loop-part.invariant.capped))
