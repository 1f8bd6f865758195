use Rattle.conditions.proofs.StateValues.{listed_value}
use Rattle.conditions.proofs.laws.listed_values.Goals as goal

pub returns : goal.returns
returns c = listed_value
