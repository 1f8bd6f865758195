use Rattle.std.proofs.Common.{sym, ◌∙◌}
use Rattle.std.proofs.lemmas.Bool.{false≢true}
use Rattle.relations.proofs.Words.{row_at, row_if, row_unless}
use Rattle.relations.proofs.rel.fn.Rel.become_product.fill.Goals as goal

pub returns-then-contains : goal.returns-then-contains
returns-then-contains c = row_if _ _ _ _ (c.contains.ensures.0 c.if-contains.true) (row_at _ _ _ _ c.requires.counts c.word.ensures)

pub returns-else-contains : goal.returns-else-contains
returns-else-contains c = row_unless _ _ _ (λ h. false≢true (sym c.if-contains.false ∙ c.contains.ensures.1 h))
