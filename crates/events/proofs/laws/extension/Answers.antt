use Rattle.events.proofs.Extending.{sets_stay, relations_stay, relations_grow, part_is_graph}
use Rattle.events.proofs.laws.extension.Goals as goal

pub returns-clause-sets : goal.returns-clause-sets
returns-clause-sets c = sets_stay

pub returns-clause-stay : goal.returns-clause-stay
returns-clause-stay c = relations_stay

pub returns-clause-grow : goal.returns-clause-grow
returns-clause-grow c = relations_grow

pub returns-clause-graph : goal.returns-clause-graph
returns-clause-graph c = part_is_graph
