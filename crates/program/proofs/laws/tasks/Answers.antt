use Rattle.std.proofs.Common.{refl, arith, codes}
use Rattle.clap.proofs.OnLiterals.{clap_on_literals}
use Rattle.program.specs.Words.{ReadsAs}
use Rattle.program.proofs.laws.tasks.Goals as goal

reads_five : ReadsAs 32 (codes "5") 5
reads_five = (((omega arith, (omega arith, tt)), omega arith), refl)

reads_four : ReadsAs 8 (codes "4") 4
reads_four = (((omega arith, (omega arith, tt)), omega arith), refl)

reads_none : ReadsAs 8 (codes "0") 0
reads_none = (((omega arith, (omega arith, tt)), omega arith), refl)

reads_default : ReadsAs 32 (codes "100000") 100000
reads_default = (((omega arith, (omega arith, (omega arith, (omega arith, (omega arith, (omega arith, (omega arith, tt))))))), omega arith), refl)

pub returns-clause-alone : goal.returns-clause-alone
unfolding clap_on_literals
returns-clause-alone c = refl

pub returns-clause-script : goal.returns-clause-script
unfolding clap_on_literals
returns-clause-script c = (refl, (codes "100000", refl, reads_default), (codes "0", refl, reads_none))

pub returns-clause-journal : goal.returns-clause-journal
unfolding clap_on_literals
returns-clause-journal c = (refl, (codes "5", refl, reads_five), (codes "0", refl, reads_none))

pub returns-clause-attached : goal.returns-clause-attached
unfolding clap_on_literals
returns-clause-attached c = (refl, (codes "5", refl, reads_five), (codes "0", refl, reads_none))

pub returns-clause-workers : goal.returns-clause-workers
unfolding clap_on_literals
returns-clause-workers c = (refl, (codes "5", refl, reads_five), (codes "4", refl, reads_four))

pub returns-clause-both : goal.returns-clause-both
unfolding clap_on_literals
returns-clause-both c = refl
