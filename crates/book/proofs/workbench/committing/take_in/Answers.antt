use Rattle.std.proofs.Common.{◌≡◌, ◌∙◌, ◌<◌, ◌==◌, true, length, sym, ap, arith}
use Rattle.std.specs.Prelude.{slice_set}
use Rattle.std.proofs.lemmas.Bool.{eq-eqb}
use Rattle.std.proofs.lemmas.Grind.{common_steps}
use Rattle.book.specs.Workbench.{marked_in}
use Rattle.book.proofs.Search.{marked_in-set, set_same, on_ok, on_err}
use Rattle.book.proofs.workbench.committing.take_in.Goals as goal

pub returns-then-number-clause-ok : goal.returns-then-number-clause-ok
returns-then-number-clause-ok c =
    let lt : c.loop-i.i < length c.loop-i.jobs.items = grind (arith, common_steps) in
    let same : (c.index_mut-job.result.now.number == c.args.number) ≡ true = eq-eqb _ _ (sym c.number.ensures ∙ c.if-number.true) in
    on_ok c.take.result (λ e. ap (λ y. slice_set c.loop-i.jobs.items c.loop-i.i y) e
    ∙ marked_in-set c.loop-i.jobs.items c.loop-i.i c.index_mut-job.result.now c.args.number c.args.part.piece.slice lt c.index_mut-job.ensures.value same c.loop-i.invariant.1
    ∙ ap (λ v. marked_in v c.args.number c.args.part.piece.slice) c.loop-i.invariant.0) c.take.ensures.ok

pub returns-then-number-clause-err : goal.returns-then-number-clause-err
returns-then-number-clause-err c =
    let lt : c.loop-i.i < length c.loop-i.jobs.items = grind (arith, common_steps) in
    on_err c.take.result (λ e. ap (λ y. slice_set c.loop-i.jobs.items c.loop-i.i y) e
    ∙ set_same c.loop-i.jobs.items c.loop-i.i c.index_mut-job.result.now lt c.index_mut-job.ensures.value ∙ c.loop-i.invariant.0) c.take.ensures.err
