use Rattle.std.proofs.Common.{refl}
use Rattle.outcome.specs.Reasons.{allowed_heading}
use Rattle.outcome.proofs.explaining.allowed_heading.Goals as goal

pub returns-then-has : goal.returns-then-has
unfolding allowed_heading
returns-then-has c = rw c.if-has.true refl

pub returns-else-has : goal.returns-else-has
unfolding allowed_heading
returns-else-has c = rw c.if-has.false refl
