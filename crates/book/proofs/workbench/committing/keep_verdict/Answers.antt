use Rattle.std.proofs.Common.{◌≡◌, ◌∙◌, ◌<◌, ◌==◌, true, length, Option, Some, drop, sym, ap, subst, arith}
use Rattle.std.specs.Prelude.{slice_set}
use Rattle.std.proofs.lemmas.Bool.{eq-eqb}
use Rattle.std.proofs.lemmas.Grind.{common_steps}
use Rattle.book.specs.Changes.{FitsVerdict}
use Rattle.book.specs.Jobs.{Job}
use Rattle.book.specs.Workbench.{job_of}
use Rattle.book.proofs.Search.{here, job_of-first, set_same}
use Rattle.book.proofs.workbench.committing.keep_verdict.Goals as goal

pub keep-requires : goal.keep-requires
keep-requires c =
    let lt : c.loop-i.i < length c.loop-i.jobs.items = grind (arith, common_steps) in
    let same : (c.index_mut-job.result.now.number == c.args.number) ≡ true = eq-eqb _ _ (sym c.number.ensures ∙ c.if-number.true) in
    let first : job_of c.loop-i.jobs.items c.args.number ≡ Some c.index_mut-job.result.now =
    c.loop-i.invariant.1 ∙ job_of-first c.loop-i.jobs.items c.loop-i.i c.index_mut-job.result.now c.args.number lt c.index_mut-job.ensures.value same in
    let P : Option Job → Type 0 = λ o. FitsVerdict o c.args.verdict in
    subst P (ap (λ js. job_of js c.args.number) (sym c.loop-i.invariant.0) ∙ first) c.requires

pub returns-then-number : goal.returns-then-number
returns-then-number c =
    let lt : c.loop-i.i < length c.loop-i.jobs.items = grind (arith, common_steps) in
    ap (λ y. slice_set c.loop-i.jobs.items c.loop-i.i y) c.keep.ensures
    ∙ set_same c.loop-i.jobs.items c.loop-i.i c.index_mut-job.result.now lt c.index_mut-job.ensures.value ∙ c.loop-i.invariant.0
