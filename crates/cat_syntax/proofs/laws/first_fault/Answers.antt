use Rattle.cat_syntax.proofs.Places.{one_stop, none_begins}
use Rattle.cat_syntax.proofs.laws.first_fault.Goals as goal

pub returns-clause-one : goal.returns-clause-one
returns-clause-one c = λ ss cause other m n f g. one_stop ss cause other m n f g

pub returns-clause-none : goal.returns-clause-none
returns-clause-none c = λ ss us cause place f stops same d. none_begins ss us cause place f stops same d
