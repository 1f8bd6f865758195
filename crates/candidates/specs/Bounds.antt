-- How large the runs of a test are.
use Rattle.std.specs.Prelude.{ℕ, ◌+◌, ◌≤◌, List, length, sum_by, Bool, ◌==◌, ◌&&◌, All}
use Rattle.events.specs.declared.event.Event.{Event}
use Rattle.events.specs.Executions.{ThreadRun, is_read}
use Rattle.c11_threads.specs.Bounds.{IsPlaced}

abbrev pub reads_from : ℕ → Event → Bool
reads_from x e = is_read e.access && (e.loc == x)

-- how many events the runs have
abbrev pub event_count : List ThreadRun → ℕ
event_count runs = sum_by (λ run. length run.events) runs

-- The runs have at most 64 events with one initial write of each location, and each event is a fence or at one of those locations.
pub record AreWithin (locations : ℕ) (runs : List ThreadRun) : Type 0 where
  pub few : locations + event_count runs ≤ 64
  pub places : All (λ run. All (IsPlaced locations) run.events) runs
