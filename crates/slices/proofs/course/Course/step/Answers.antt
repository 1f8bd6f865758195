use Rattle.std.proofs.Common.{◌∙◌, ◌<◌, ap, sym, subst, ◌+◌}
use Rattle.slices.specs.Courses.{CourseValue}
use Rattle.slices.specs.Parts.{PieceValue}
use Rattle.slices.proofs.Coursing.{apart, stepped}
use Rattle.slices.proofs.course.Course.step.Goals as goal

pub merge-requires-clause-apart : goal.merge-requires-clause-apart
merge-requires-clause-apart c =
    let first = ap (λ (p : PieceValue). p.from) c.in_ok-part.ensures ∙ c.in_ok-piece.ensures.from in
    apart _ _ c.in_ok-part.part c.self.invariant first

pub invariant_of-self-in-Ok : goal.invariant_of-self-in-Ok
invariant_of-self-in-Ok c =
    let first = ap (λ (p : PieceValue). p.from) c.in_ok-part.ensures ∙ c.in_ok-piece.ensures.from in
    let last = ap (λ (p : PieceValue). p.to) c.in_ok-part.ensures ∙ c.in_ok-piece.ensures.to in
    let P : CourseValue → Type 0 = λ v. v.done < v.total in
    stepped _ _ _ c.in_ok-part.part c.self.invariant (subst P (sym c.self.view_is) c.requires) first last c.in-Ok.ensures.merged

pub invariant_of-self-in-Err : goal.invariant_of-self-in-Err
invariant_of-self-in-Err c = rw c.in-Err.ensures.same c.self.invariant

pub returns-in-Ok-clause-done : goal.returns-in-Ok-clause-done
returns-in-Ok-clause-done c =
    let N : CourseValue → CourseValue = λ v. record { work = v.work; total = v.total; done = v.done + 1 } in
    ap N c.self.view_is
