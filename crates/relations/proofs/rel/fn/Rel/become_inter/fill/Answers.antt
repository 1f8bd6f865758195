use Rattle.relations.proofs.Words.{row_and, row_at}
use Rattle.relations.proofs.rel.fn.Rel.become_inter.fill.Goals as goal

pub returns : goal.returns
returns c = row_and _ _ _ _ _ c.row.ensures (row_at _ _ _ _ c.requires.counts c.row-2.ensures)
