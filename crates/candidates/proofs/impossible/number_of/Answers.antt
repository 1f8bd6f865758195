use Rattle.std.proofs.Common.{◌∙◌, ap, sym}
use Rattle.candidates.specs.Impossible.{number_at}
use Rattle.candidates.proofs.impossible.number_of.Goals as goal

pub returns-in-Some-clause-is : goal.returns-in-Some-clause-is
returns-in-Some-clause-is c = ap number_at (sym c.in-Some.is ∙ c.place_of.ensures)

pub returns-in-None-clause-is : goal.returns-in-None-clause-is
returns-in-None-clause-is c = ap number_at (sym c.in-None.is ∙ c.place_of.ensures)
