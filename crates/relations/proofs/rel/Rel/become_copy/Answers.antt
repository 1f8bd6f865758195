use Rattle.relations.proofs.Relations.{copied}
use Rattle.relations.proofs.rel.Rel.become_copy.Goals as goal

pub returns : goal.returns
returns c = copied _ _ _ c.count.ensures.canonical c.count.ensures.is c.fill.ensures
