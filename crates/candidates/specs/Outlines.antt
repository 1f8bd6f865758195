-- Runs whose events do the same, whatever their values are, and what a page keeps of all such runs.
use Rattle.std.specs.Prelude.{◌≡◌, ◌≤◌, ◌/◌, ◌%◌, ℕ, List, [], length, map, take, true, All, if◌then◌else◌}
use Rattle.events.specs.declared.event.Event.{Event}
use Rattle.events.specs.declared.graph.GraphParts.{GraphParts}
use Rattle.events.specs.declared.event.Order.TheVariants.{NoOrder}
use Rattle.events.specs.Executions.{ThreadRun, is_write, no_places}
use Rattle.listings.specs.Lists.{product_by}
use Rattle.candidates.specs.declared.page.Page.{Page}
use Rattle.candidates.specs.Executions.{reads, later_writes, upto}
use Rattle.candidates.specs.Candidates.{count_sources, count_co, orders_by, rf_at}
use Rattle.candidates.specs.Blocks.{IsDepth}
use Rattle.candidates.specs.Depths.{depths_of}
use Rattle.candidates.specs.Readings.{HaveSuitable}
use Rattle.candidates.specs.declared.threads.Kept.{Kept}

-- what an event does, and to which location
abbrev pub outline : Event → Event
outline e = record { thread = 0; access = e.access; loc = e.loc; value = 0; order = NoOrder; data_from = no_places; ctrl_from = no_places }

-- a run, of which of each event so much is shown
abbrev pub shown_run : (Event → Event) → ThreadRun → ThreadRun
shown_run f run = record { events = map f run.events; registers = [] }

-- what the events of each run do
abbrev pub outlines : List ThreadRun → List ThreadRun
outlines runs = map (shown_run outline) runs

-- the same of an event, and what it writes
abbrev pub written : Event → Event
written e = record { thread = 0; access = e.access; loc = e.loc; value = if is_write e.access then e.value else 0; order = NoOrder; data_from = no_places; ctrl_from = no_places }

-- what the events of each run do and write
abbrev pub writings : List ThreadRun → List ThreadRun
writings runs = map (shown_run written) runs

-- What is said to stay of the runs that were there before does.
pub record IsKept (before runs : List ThreadRun) (k : Kept) : Type 0 where
  pub few : k.same ≤ length runs
  pub same : take k.same runs ≡ take k.same before
  pub calm : k.calm ≡ true → writings runs ≡ writings before
  pub alike : k.alike ≡ true → outlines runs ≡ outlines before

-- The reads of the page, and what they fit, are those of runs that were there before, whose events did the same.
pub record WasOf (init : List ℕ) (k : Kept) (p : Page) : Type 0 where
  pub before : List ThreadRun
  pub kept : IsKept before p.runs.items k
  pub alike : outlines p.runs.items ≡ outlines before
  pub reads_were : p.reads.items ≡ reads before
  pub suited : HaveSuitable init before p.reads.items p.suitable.items (length p.reads.items)

-- The parts are those of the candidate of their runs with the number k.
abbrev pub HasNumber : ℕ → GraphParts → ℕ → Type 0
HasNumber locations parts k = (parts.rf.items ≡ rf_at parts.runs.items (k / count_co locations parts.runs.items)) × (parts.co.items ≡ orders_by locations parts.runs.items (k % count_co locations parts.runs.items))

-- What the page keeps besides its runs and reads is that of these runs.
pub record IsOfRuns (locations : ℕ) (runs : List ThreadRun) (p : Page) : Type 0 where
  pub writes_are : p.writes.items ≡ map (later_writes runs) (upto locations)
  pub ways : p.ways ≡ product_by (count_sources runs) (reads runs)
  pub orders : p.orders ≡ count_co locations runs
  pub depths : All (IsDepth locations runs) p.depths.items
  pub depths_are : p.depths.items ≡ depths_of locations runs
