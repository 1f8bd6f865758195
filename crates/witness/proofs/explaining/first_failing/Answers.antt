use Rattle.std.proofs.Common.{arith, rules}
use Rattle.witness.proofs.Explained.{fails_first, permit_end, permit_next}
use Rattle.witness.proofs.explaining.first_failing.Goals as goal

pub returns-then-not-outcome : goal.returns-then-not-outcome
returns-then-not-outcome c = fails_first c.args.outcomes.now c.loop-number.number c.index-outcomes-number.result c.loop-number-test.true c.index-outcomes-number.is c.loop-number.invariant (search rules)

pub returns : goal.returns
returns c = permit_end c.args.outcomes.now c.loop-number.number (omega (arith, c.loop-number-test.false)) c.loop-number.invariant

pub loop-number-preserved : goal.loop-number-preserved
loop-number-preserved c = permit_next c.args.outcomes.now c.loop-number.number c.index-outcomes-number.result c.loop-number-test.true c.index-outcomes-number.is c.loop-number.invariant (search rules)
