use Rattle.relations.specs.Equality.{one_set}
use Rattle.events.specs.Executions.{no_places}
use Rattle.events.proofs.Places.{nothing}
use Rattle.events.proofs.event.no_places.Goals as goal

pub returns : goal.returns
unfolding no_places
returns c = one_set 64 (λ i. ⊥) c.none.result no_places c.none.ensures nothing
