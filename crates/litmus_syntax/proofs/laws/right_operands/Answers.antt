use Rattle.litmus_syntax.proofs.Operands.{expression_bound, proposition_bound}
use Rattle.litmus_syntax.proofs.laws.right_operands.Goals as goal

pub returns : goal.returns
returns c = record { expressions = expression_bound; propositions = proposition_bound }
