use Rattle.std.proofs.Common.{refl}
use Rattle.test_places.proofs.Counting.{steps_none}
use Rattle.test_places.proofs.Whole.{steps_more, steps_all}
use Rattle.test_places.proofs.laws.counted_events.Goals as goal

pub returns-clause-none : goal.returns-clause-none
returns-clause-none c = λ ss. steps_none ss 0 refl

pub returns-clause-further : goal.returns-clause-further
returns-clause-further c = steps_more

pub returns-clause-all : goal.returns-clause-all
returns-clause-all c = steps_all
