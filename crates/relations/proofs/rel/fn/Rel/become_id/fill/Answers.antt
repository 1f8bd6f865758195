use Rattle.std.proofs.Common.{arith}
use Rattle.relations.proofs.Words.{row_one}
use Rattle.relations.proofs.rel.fn.Rel.become_id.fill.Goals as goal

pub returns : goal.returns
returns c = row_one _ _ (omega (arith, c.requires.from, c.requires.count))
