use Rattle.relations.proofs.Words.{row_or, row_at}
use Rattle.relations.proofs.rel.fn.Rel.become_union.fill.Goals as goal

pub returns : goal.returns
returns c = row_or _ _ _ _ _ c.row.ensures (row_at _ _ _ _ c.requires.counts c.row-2.ensures)
