use Rattle.std.proofs.Common.{◌≡◌, sym, subst}
use Rattle.slices.specs.Courses.{CourseValue}
use Rattle.slices.proofs.Coursing.{covered}
use Rattle.slices.proofs.course.Course.verdict.Goals as goal

pub verdict-requires : goal.verdict-requires
verdict-requires c = let P : CourseValue → Type 0 = λ v. v.done ≡ v.total in covered _ _ c.self.invariant (subst P (sym c.self.view_is) c.requires)
