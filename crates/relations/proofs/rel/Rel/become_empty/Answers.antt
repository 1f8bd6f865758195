use Rattle.relations.proofs.Relations.{built}
use Rattle.relations.proofs.rel.Rel.become_empty.Goals as goal

pub returns : goal.returns
returns c = built _ _ _ c.fill.ensures
