-- Parts of the row of choices, and the numbers at which they begin.
use Rattle.std.specs.Prelude.{◌≡◌, ◌≤◌, ℕ, List, ◌++◌, length, map}
use Rattle.events.specs.Executions.{ThreadRun}
use Rattle.listings.specs.Lists.{IsIn, sum_of}
use Rattle.candidates.specs.Executions.{block}
use Rattle.candidates.specs.Candidates.{choices}
use Rattle.candidates.specs.Bounds.{AreWithin}

-- the choices that begin with the chosen runs and go on over these threads
abbrev pub behind : List ThreadRun → List (List ThreadRun) → List (List ThreadRun)
behind chosen threads = map (λ c. chosen ++ c) (choices threads)

-- The part stands in the row, and the candidates with the choices before it are as many as `first`.
pub record IsPart (locations : ℕ) (row : List (List ThreadRun)) (first : ℕ) (part : List (List ThreadRun)) : Type 0 where
  pub before : List (List ThreadRun)
  pub after : List (List ThreadRun)
  pub is : row ≡ before ++ (part ++ after)
  pub begins : first ≡ sum_of (block locations) before

-- The runs of each choice are within the limits.
abbrev pub AreAllWithin : ℕ → List (List ThreadRun) → Type 0
AreAllWithin locations row = (c : List ThreadRun) → IsIn c row → AreWithin locations c

-- At most 8 threads, and at most 64 events in each run.
pub record AreShort (threads : List (List ThreadRun)) : Type 0 where
  pub few : length threads ≤ 8
  pub short : (runs : List ThreadRun) (run : ThreadRun) → IsIn runs threads → IsIn run runs → length run.events ≤ 64
