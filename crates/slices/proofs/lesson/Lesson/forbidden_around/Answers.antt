use Rattle.std.proofs.Common.{List, Option, sym, subst}
use Rattle.std.specs.List.{All}
use Rattle.std.specs.Prelude.{IfSome}
use Rattle.events.specs.Structures.{Structure}
use Rattle.slices.specs.Passing.{IsForbidden}
use Rattle.slices.specs.Reasons.{IsFatal}
use Rattle.slices.specs.declared.lesson.Forbidden.{Forbidden}
use Rattle.slices.specs.declared.reason.Reason.{Reason}
use Rattle.slices.proofs.lesson.Lesson.forbidden_around.Goals.{then-is_in, else-is_in}
use Rattle.slices.proofs.lesson.Lesson.forbidden_around.Goals as goal

pub loop-reason-preserved : goal.loop-reason-preserved
loop-reason-preserved c items h =
    let P : Option Forbidden → Type 0 = λ o. IfSome o (λ f. IsForbidden items c.args.walk.now f.end) in
    let F : Structure → Type 0 = λ s. All (IsFatal items s) c.deref-reason-items.result.now in
    let A : List Reason → Type 0 = All (IsFatal items c.args.self.now.structure.structure) in
    let fatal = subst F c.requires.structure (subst A (sym c.deref-reason-items.ensures.value) h) in
    elim c.if-is_in.branch [
      | then-is_in w ↦ subst P (sym w.widest-is) (w.block_with.ensures items (fatal c.loop-reason.reason-index _ c.loop-reason-test.true) (c.loop-reason.invariant items h))
      | else-is_in w ↦ subst P (sym w.widest-is) (c.loop-reason.invariant items h)
    ]
