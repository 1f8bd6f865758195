use Rattle.std.proofs.Common.{◌≡◌, ◌∙◌, sym, arith, rules}
use Rattle.std.proofs.lemmas.Bool.{false≢true, ne_eqb}
use Rattle.std.specs.Prelude.{slice_get}
use Rattle.journal.specs.Lines.{shown}
use Rattle.book.specs.Step.{HasRange, IsOwn}
use Rattle.book.proofs.workbench.claims.is_own.Goals.{then-slice-claim, else-slice-claim}
use Rattle.book.proofs.workbench.claims.is_own.Goals as goal

pub returns-then-has_range : goal.returns-then-has_range
returns-then-has_range c =
    let told : c.work-then-has_range.result.now ≡ c.args.job.now.work = c.work-then-has_range.ensures.work in
    let own : c.work.result.now ≡ c.work-then-has_range.result.now → c.args.piece.now.work ≡ c.args.job.now.work = λ e. sym c.work.ensures.work ∙ e ∙ told in
    let same : c.args.piece.now.work ≡ c.args.job.now.work → c.work.result.now ≡ c.work-then-has_range.result.now = λ e. c.work.ensures.work ∙ e ∙ sym told in
    elim c.if-slice-claim.branch [
      | then-slice-claim w ↦
          let range : HasRange (slice_get c.args.job.now.slices c.args.piece.now.slice) c.args.piece.now.from c.args.piece.now.to = search rules in
          (λ t. (omega arith, range, own (c.same.ensures.0 t)), λ (o : IsOwn c.args.claim.now c.args.job.now (shown c.args.piece.now)). c.same.ensures.1 (same o.2))
      | else-slice-claim w ↦ absurd (false≢true (sym (ne_eqb _ _ w.if-slice-claim.false) ∙ sym w.value-is ∙ c.if-has_range.true))
    ]
