use Rattle.conditions.proofs.StateValues.{bound_value, unbound_value}
use Rattle.conditions.proofs.laws.bound_values.Goals as goal

pub returns : goal.returns
returns c = record { bound = bound_value; unbound = unbound_value }
