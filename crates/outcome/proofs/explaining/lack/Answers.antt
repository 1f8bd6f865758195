use Rattle.std.proofs.Common.{refl}
use Rattle.outcome.specs.Reasons.{lack}
use Rattle.outcome.proofs.explaining.lack.Goals as goal

pub returns-then-has : goal.returns-then-has
unfolding lack
returns-then-has c = rw c.if-has.true refl

pub returns-else-has : goal.returns-else-has
unfolding lack
returns-else-has c = rw c.if-has.false refl
