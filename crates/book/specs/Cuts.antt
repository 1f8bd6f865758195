-- Cuts of a job's numbers.
use Rattle.std.specs.Prelude.{◌≡◌, ℕ, suc, ◌<◌, ◌≤◌, false, true, not, ◌&&◌, nat_le, List, length, count_by}
use Rattle.std.specs.List.{list_all}
use Rattle.slices.specs.Tallies.{cut}
use Rattle.book.specs.Step.{has_number}
use Rattle.book.specs.declared.slice.Slice.{Slice}

-- i is one of the slice's numbers
abbrev pub IsWithin : Slice → ℕ → Type 0
IsWithin x i = (x.from ≤ i) × (i < x.to)

-- the slice at place i of so many in all
abbrev pub slice_of : ℕ → ℕ → ℕ → Slice
slice_of size total i = record { from = cut size total i; to = cut size total (suc i); returned = false }

-- The ranges lie within the numbers below n and cover each of them once, whichever slices are returned.
pub record IsCover (n : ℕ) (slices : List Slice) : Type 0 where
  pub within : list_all (λ x. nat_le x.from x.to && nat_le x.to n) slices ≡ true
  pub once : (i : ℕ) → i < n → count_by (has_number i) slices ≡ 1

-- The first m slices of so many in all: they cover each number before the next slice once, and no other.
pub record IsBegun (size total m : ℕ) (slices : List Slice) : Type 0 where
  pub long : length slices ≡ m
  pub fresh : list_all (λ x. not x.returned) slices ≡ true
  pub within : list_all (λ x. nat_le x.from x.to && nat_le x.to size) slices ≡ true
  pub below : (i : ℕ) → i < cut size total m → count_by (has_number i) slices ≡ 1
  pub beyond : (i : ℕ) → cut size total m ≤ i → count_by (has_number i) slices ≡ 0
