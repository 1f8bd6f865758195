use Rattle.std.proofs.Common.{List}
use Rattle.std.specs.Prelude.{IfSome}
use Rattle.cat_tree.specs.Tree.{Clause}
use Rattle.slices.specs.Lessons.{IsLesson}
use Rattle.slices.specs.Passing.{IsForbidden}
use Rattle.slices.proofs.lesson.Lesson.forbidden_around.Given as goal

abbrev pub invariant-loop-reason : goal.invariant-loop-reason
invariant-loop-reason l = (items : List Clause) → IsLesson items l.self → IfSome l.widest (λ f. IsForbidden items l.walk f.end)
