use Rattle.events.proofs.Numbers.{counted, names_listed}
use Rattle.events.proofs.laws.numbering.Goals as goal

pub returns : goal.returns
returns c = λ g. (counted g, names_listed g)
