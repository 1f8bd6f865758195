-- Free slices.
use Rattle.std.specs.Prelude.{◌≡◌, ℕ, ◌<◌, true, false, Some, slice_get}
use Rattle.listings.specs.Lists.{IsIn}
use Rattle.book.specs.Jobs.{Job}
use Rattle.book.specs.Workbench.{Workbench, is_free, is_replaced, has_free}
use Rattle.book.specs.declared.slice.Slice.{Slice}

-- the job has a slice at this place, and it is free
abbrev pub IsFreeAt : Workbench → Job → ℕ → Type 0
IsFreeAt s job i = (x : Slice) × (slice_get job.slices i ≡ Some x) × (is_free s job i x ≡ true)

-- and the job is one of those that are held
abbrev pub IsFreeIn : Workbench → Job → ℕ → Type 0
IsFreeIn s job i = IsIn job s.jobs × IsFreeAt s job i

-- no slice of the job before place i is free
pub record IsNoneBefore (s : Workbench) (job : Job) (i : ℕ) : Type 0 where
  pub none : (n : ℕ) (x : Slice) → n < i → slice_get job.slices n ≡ Some x → is_free s job n x ≡ false

-- no slice of the jobs before place k is free, and none before place i of the job there, which isn't replaced if i isn't its first
pub record IsPassed (s : Workbench) (k i : ℕ) : Type 0 where
  pub jobs : (n : ℕ) (job : Job) → n < k → slice_get s.jobs n ≡ Some job → has_free s job ≡ false
  pub slices : (job : Job) → slice_get s.jobs k ≡ Some job → IsNoneBefore s job i
  pub current : (job : Job) → slice_get s.jobs k ≡ Some job → 0 < i → is_replaced s job ≡ false

-- no slice before a free one is free
pub record IsFirstFree (s : Workbench) (job : Job) (k i : ℕ) : Type 0 where
  pub free : IsFreeIn s job i
  pub passed : IsPassed s k i
