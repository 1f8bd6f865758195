use Rattle.std.proofs.Common.{arith}
use Rattle.relations.proofs.Words.{row_ident}
use Rattle.relations.proofs.rel.fn.Rel.become_ident.fill.Goals as goal

pub returns : goal.returns
returns c = row_ident _ _ _ _ (omega (arith, c.requires.from, c.requires.small)) c.word.ensures
