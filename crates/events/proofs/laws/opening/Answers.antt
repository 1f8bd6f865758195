use Rattle.events.proofs.Decided.{decided_set, decided_rel}
use Rattle.events.proofs.Within.{one_sourced, relations_within}
use Rattle.events.proofs.laws.opening.Goals as goal

pub returns-clause-within : goal.returns-clause-within
returns-clause-within c = relations_within

pub returns-clause-sourced : goal.returns-clause-sourced
returns-clause-sourced c = one_sourced

pub returns-clause-sets : goal.returns-clause-sets
returns-clause-sets c = decided_set

pub returns-clause-relations : goal.returns-clause-relations
returns-clause-relations c = decided_rel
