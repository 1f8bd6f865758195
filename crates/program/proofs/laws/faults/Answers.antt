use Rattle.std.proofs.Common.{refl}
use Rattle.clap.proofs.OnLiterals.{clap_on_literals}
use Rattle.program.proofs.laws.faults.Goals as goal

pub returns-clause-no_value : goal.returns-clause-no_value
unfolding clap_on_literals
returns-clause-no_value c = refl

pub returns-clause-zero : goal.returns-clause-zero
unfolding clap_on_literals
returns-clause-zero c = refl

pub returns-clause-too_many : goal.returns-clause-too_many
unfolding clap_on_literals
returns-clause-too_many c = refl

pub returns-clause-nine_workers : goal.returns-clause-nine_workers
unfolding clap_on_literals
returns-clause-nine_workers c = refl

pub returns-clause-flag_value : goal.returns-clause-flag_value
unfolding clap_on_literals
returns-clause-flag_value c = refl

pub returns-clause-twice : goal.returns-clause-twice
unfolding clap_on_literals
returns-clause-twice c = refl

pub returns-clause-unknown : goal.returns-clause-unknown
unfolding clap_on_literals
returns-clause-unknown c = refl

pub returns-clause-stray : goal.returns-clause-stray
unfolding clap_on_literals
returns-clause-stray c = refl

pub returns-clause-help : goal.returns-clause-help
unfolding clap_on_literals
returns-clause-help c = refl
