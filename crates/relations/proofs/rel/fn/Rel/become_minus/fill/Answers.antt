use Rattle.relations.proofs.Words.{row_minus, row_at}
use Rattle.relations.proofs.rel.fn.Rel.become_minus.fill.Goals as goal

pub returns : goal.returns
returns c = row_minus _ _ _ _ _ c.requires.small c.row-2.type_inv c.row.ensures (row_at _ _ _ _ c.requires.counts c.row-2.ensures)
