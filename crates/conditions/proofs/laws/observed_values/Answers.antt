use Rattle.conditions.proofs.StateValues.{observed_answer}
use Rattle.conditions.proofs.laws.observed_values.Goals as goal

pub returns : goal.returns
returns c = observed_answer
