use Rattle.candidates.proofs.walk.look.Goals as goal

pub visit-requires-clause-within : goal.visit-requires-clause-within
visit-requires-clause-within c = rw c.in-None.is at c.in_ok-next.ensures.reached
