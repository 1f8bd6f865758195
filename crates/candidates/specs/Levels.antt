-- What is kept of the threads on the way down to a choice of runs.
use Rattle.std.specs.Prelude.{◌≡◌, ℕ, zero, suc, ◌+◌, ◌<◌, ◌≤◌, List, [], length, map, take, drop, slice_index_or}
use Rattle.events.specs.Executions.{ThreadRun, empty_run}
use Rattle.listings.specs.Lists.{sum_of}
use Rattle.candidates.specs.Candidates.{Choices}
use Rattle.candidates.specs.declared.counts.Counts.{Counts}
use Rattle.candidates.specs.declared.levels.Level.{Level}
use Rattle.candidates.specs.Groups.{tally_of, sum_tally, sizes_of}

-- At the place p there is a size, and those before it come to this sum.
abbrev pub StandsAt : List ℕ → (p before : ℕ) → Type 0
StandsAt sizes p before = (p < length sizes) × (before ≡ sum_of (λ n. n) (take p sizes))

abbrev pub Stands : Level → Type 0
Stands l = StandsAt l.sizes.items l.place l.before

abbrev pub places_of : List Level → List ℕ
places_of levels = map (λ l. l.place) levels

-- the tally of the runs of the first k threads that stand at these places
abbrev pub tally_to : ℕ → List (List (List Counts)) → List ℕ → ℕ → List Counts
tally_to locations groups places zero = tally_of locations []
tally_to locations groups places (suc k) = sum_tally (tally_to locations groups places k) (slice_index_or (slice_index_or groups k []) (slice_index_or places k 0) [])

-- The level is that of the thread k: its tally is that of the runs at which the levels before it stand, and its sizes are those of the candidates that go on with each run of the thread.
pub record IsLevel (locations : ℕ) (groups : List (List (List Counts))) (places : List ℕ) (k : ℕ) (l : Level) : Type 0 where
  pub tally : l.tally ≡ tally_to locations groups places k
  pub sizes : l.sizes.items ≡ sizes_of l.tally (slice_index_or groups k []) (drop (k + 1) groups)
  pub stands : Stands l

-- The levels are those of the first threads.
abbrev pub AreLevels : ℕ → List (List (List Counts)) → List Level → Type 0
AreLevels locations groups levels = (k : ℕ) (l : Level) → k < length levels → l ≡ slice_index_or levels k l → IsLevel locations groups (places_of levels) k l

-- the tallies of the runs of each thread
abbrev pub groups_of : Choices → List (List (List Counts))
groups_of s = map (λ runs. map (λ run. tally_of (length s.init) run.events) runs) s.threads

-- Of each of the first threads, as many as there are places, the run is the one at this place of the thread's runs.
pub record ArePlaced (threads : List (List ThreadRun)) (runs : List ThreadRun) (places : List ℕ) : Type 0 where
  pub few : length places ≤ length threads
  pub there : length places ≤ length runs
  pub are : (k : ℕ) → k < length places → slice_index_or runs k empty_run ≡ slice_index_or (slice_index_or threads k []) (slice_index_or places k 0) empty_run
