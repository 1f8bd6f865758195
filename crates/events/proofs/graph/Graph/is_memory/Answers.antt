use Rattle.std.proofs.Common.{◌∙◌, ap, sym, inl, inr}
use Rattle.std.proofs.lemmas.Bool.{false≢true}
use Rattle.events.specs.Executions.{is_read, is_write}
use Rattle.events.proofs.graph.Graph.is_memory.Goals as goal

pub returns-then-is_read : goal.returns-then-is_read
returns-then-is_read c = (λ h. inl (sym (c.is_read.ensures ∙ ap is_read c.access-access.ensures) ∙ h), λ h. c.if-is_read.true)

pub returns-else-is_read : goal.returns-else-is_read
returns-else-is_read c =
    let reads = c.is_read.ensures ∙ ap is_read c.access-access.ensures in
    let writes = c.is_write.ensures ∙ ap is_write c.access-access.ensures in (
      λ h. inr (sym writes ∙ h),
      λ h. elim h [ inl r ↦ absurd (false≢true (sym c.if-is_read.false ∙ reads ∙ r)) | inr w ↦ writes ∙ w ],
    )
