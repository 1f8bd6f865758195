use Rattle.relations.proofs.Words.{row_not}
use Rattle.relations.proofs.rel.fn.Rel.become_complement.fill.Goals as goal

pub returns : goal.returns
returns c = row_not _ _ _ c.requires.small c.row.type_inv c.row.ensures
