-- An evaluation of a work, slice by slice.
use Rattle.std.specs.Prelude.{◌≡◌, ℕ, ◌<◌, ◌≤◌}
use Rattle.slices.specs.Parts.{test_size}
use Rattle.slices.specs.Tallies.{TallyValue, IsHeld, cut}
use Rattle.slices.specs.Works.{WorkValue}

-- A work, in how many slices it is evaluated, and how many of the first are done.
pub record CourseValue : Type 0 where
  pub work : WorkValue
  pub total : ℕ
  pub done : ℕ

-- The tally has just the numbers of the slices that are done.
pub record IsCourse (c : CourseValue) (t : TallyValue) : Type 0 where
  pub work : t.work ≡ c.work
  pub some : 1 ≤ c.total
  pub done : c.done ≤ c.total
  pub below : (i : ℕ) → IsHeld t.spans i → i < cut (test_size c.work.test) c.total c.done
  pub held : (i : ℕ) → i < cut (test_size c.work.test) c.total c.done → IsHeld t.spans i
