use Rattle.relations.proofs.Words.{row_none}
use Rattle.relations.proofs.rel.fn.Rel.become_empty.fill.Goals as goal

pub returns : goal.returns
returns c = row_none _
