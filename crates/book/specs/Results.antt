-- How the results that a job has merged go with its slices.
use Rattle.std.specs.Prelude.{◌≡◌, ◌↔◌, ℕ, ◌≤◌, true, List, [], ◌∷◌, Some, length, slice_get}
use Rattle.cat_model.specs.declared.model.FileVersion.{FileVersion}
use Rattle.slices.specs.VerdictValues.{VerdictValue}
use Rattle.slices.specs.Parts.{IsAdmitted, test_size}
use Rattle.slices.specs.Tallies.{TallyValue, IsHeld}
use Rattle.slices.specs.Verdicts.{IsVerdict}
use Rattle.slices.specs.Works.{WorkValue}
use Rattle.book.specs.Cuts.{IsCover, IsWithin}
use Rattle.book.specs.declared.slice.Slice.{Slice}

-- i is one of the numbers of a returned slice
abbrev pub IsReturned : List Slice → ℕ → Type 0
IsReturned slices i = (k : ℕ) × (x : Slice) × (slice_get slices k ≡ Some x) × (x.returned ≡ true) × IsWithin x i

-- there is a first file
abbrev pub HasRoot : List FileVersion → Type 0
HasRoot [] = ⊥
HasRoot (f ∷ fs) = Unit {0}

-- The slices cover the numbers of the work, and the merged results are over the numbers of the returned slices.
pub record IsTied (merged : TallyValue) (slices : List Slice) : Type 0 where
  pub cover : IsCover (test_size merged.work.test) slices
  pub few : length slices ≤ 256
  pub tied : (i : ℕ) → IsReturned slices i ↔ IsHeld merged.spans i
  pub root : HasRoot merged.work.model.files
  pub admitted : IsAdmitted merged.work.test

-- v is a right verdict on a work, for this version of its test.
abbrev pub IsVerdictOn : WorkValue → ℕ → VerdictValue → Type 0
IsVerdictOn work version v = (v.work ≡ work) × (v.version ≡ version) × IsVerdict v.work.test v.work.model.items v.finding
