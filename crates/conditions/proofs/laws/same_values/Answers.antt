use Rattle.conditions.proofs.StateValues.{same_answer}
use Rattle.conditions.proofs.laws.same_values.Goals as goal

pub returns : goal.returns
returns c = same_answer
