use Rattle.std.proofs.Common.{◌≡◌, ◌∙◌, false, length, sym, subst, List, Some}
use Rattle.std.specs.Prelude.{IfSome, slice_get}
use Rattle.std.proofs.lemmas.Bool.{eqb-true, ltb-true}
use Rattle.book.specs.Jobs.{Job}
use Rattle.book.specs.Workbench.{Workbench, job_of, is_replaced}
use Rattle.book.proofs.Frees.{at_place, current_job}
use Rattle.book.proofs.workbench.Bench.is_current.Goals as goal

pub returns-else-self-eq0 : goal.returns-else-self-eq0
returns-else-self-eq0 c = λ t.
    let n = c.args.number in
    let job = c.in-Some.job.now in
    let k = c.self.inside.mark.job in
    let list = c.deref.result.now in
    let there : slice_get list k ≡ Some job = at_place list k job (ltb-true k (length list) (sym c.in-Some.ensures.lookup.0)) c.in-Some.ensures.lookup.1 in
    let L : List Job → Type 0 = λ js. slice_get js k ≡ Some job in
    let number : job.number ≡ n = sym c.number.ensures ∙ eqb-true c.number.result n t in
    let W : Workbench → Type 0 = λ s. IfSome (job_of s.jobs n) (λ j. is_replaced s j ≡ false) in
    subst W c.self.view_is (current_job _ job k _ n c.self.invariant.passed c.self.invariant.numbered.rising (subst L c.deref.ensures.value there) number c.if-self-eq0.false)
