use Rattle.std.proofs.Common.{ℕ, take, arith}
use Rattle.litmus_syntax.specs.Unspelled.{IsUnspelled}
use Rattle.test_places.proofs.Firsts.{none_more}
use Rattle.test_places.proofs.reading.first_front.Goals as goal

pub loop-end-preserved : goal.loop-end-preserved
loop-end-preserved c = none_more (λ (m : ℕ). IsUnspelled (take m c.args.symbols.now) c.args.fault) c.loop-end.end c.loop-end.invariant (c.in_ok-front_has.ensures.no c.if-branch.false)

pub returns : goal.returns
returns c = λ n within. c.loop-end.invariant n (omega (arith, within))
