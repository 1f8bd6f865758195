use Rattle.std.proofs.Common.{inl, inr, sym, subst, ◌∙◌}
use Rattle.std.proofs.lemmas.Bool.{false≢true}
use Rattle.scripts.specs.Lines.{nothing_read}
use Rattle.scripts.specs.Spelled.{IsWork}
use Rattle.scripts.proofs.script.Script.instruction.Goals as goal

pub returns-then-is_work-clause-lines : goal.returns-then-is_work-clause-lines
returns-then-is_work-clause-lines g c = nothing_read

pub returns-clause-bad : goal.returns-clause-bad
returns-clause-bad g c n e = elim (c.call.ensures.bad n e) [
  | inl p ↦ inl (p.0, (λ work. false≢true (sym c.if-is_work.false ∙ c.is_work.ensures.1 (subst IsWork (sym c.line.ensures) work)), p.1))
  | inr q ↦ inr q
]
