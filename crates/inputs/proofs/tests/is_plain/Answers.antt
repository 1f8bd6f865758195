use Rattle.std.proofs.Common.{sym, ◌∙◌}
use Rattle.std.proofs.lemmas.Bool.{false≢true}
use Rattle.inputs.proofs.tests.is_plain.Goals as goal

pub returns-else-not-contains : goal.returns-else-not-contains
returns-else-not-contains c = rw c.if-not-contains.false (λ p. false≢true (sym p.0 ∙ sym c.contains.ensures.value ∙ c.if-not-contains.false))
