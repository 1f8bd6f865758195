-- Jobs.
use Rattle.std.specs.Prelude.{ℕ, zero, suc, Bool, true, List, [], ◌∷◌, count_by}
use Rattle.std.specs.List.{list_all}
use Rattle.slices.specs.Works.{WorkValue}
use Rattle.book.specs.declared.slice.Slice.{Slice}

-- A job: its number, the version of its test, its work with the files and their versions, and its slices.
pub record Job : Type 0 where
  pub number : ℕ
  pub version : ℕ
  pub work : WorkValue
  pub slices : List Slice

-- how many slices are returned
abbrev pub done : Job → ℕ
done job = count_by (λ x. x.returned) job.slices

-- all are
abbrev pub is_done : Job → Bool
is_done job = list_all (λ x. x.returned) job.slices

-- with the slice at place i returned
abbrev pub mark : ℕ → List Slice → List Slice
mark i [] = []
mark zero (x ∷ xs) = record x { returned = true } ∷ xs
mark (suc i) (x ∷ xs) = x ∷ mark i xs

-- the job with that slice returned
abbrev pub marked : ℕ → Job → Job
marked i job = record job { slices = mark i job.slices }
