use Rattle.std.proofs.Common.{arith}
use Rattle.relations.proofs.Words.{row_or, row_one}
use Rattle.relations.proofs.rel.fn.Rel.become_opt.fill.Goals as goal

pub returns : goal.returns
returns c = row_or _ _ _ _ _ c.row.ensures (row_one _ _ (omega (arith, c.requires.from, c.requires.small)))
