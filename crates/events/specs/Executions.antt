-- Runs of threads, and candidate executions: a run of each thread, a read-from map and a coherence order.
-- After Alglave, Maranget and Tautschnig, Herding cats, 2014, section 4.
use Rattle.std.specs.Prelude.{ℕ, ◌+◌, ◌<◌, ◌≤◌, List, [], length, sum_by, slice_index_or, All, Bool, true, false, ◌==◌, ◌&&◌}
use Rattle.relations.specs.Events.{EventSet, event_set}
use Rattle.events.specs.declared.event.Access.{Access}
use Rattle.events.specs.declared.event.Access.TheVariants.{Read, Write, Fence, ExRead, ExWrite}
use Rattle.events.specs.declared.event.Event.{Event}
use Rattle.events.specs.declared.event.EventId.{EventId}
use Rattle.events.specs.declared.event.EventId.TheVariants.{Initial, Own}

-- the dependencies of an event that depends on nothing: no place of 0 to 63
unfoldable pub no_places : EventSet
no_places = event_set 64 (λ i. false)

abbrev pub is_read : Access → Bool
is_read Read = true
is_read ExRead = true
is_read Write = false
is_read ExWrite = false
is_read Fence = false

abbrev pub is_write : Access → Bool
is_write Write = true
is_write ExWrite = true
is_write Read = false
is_write ExRead = false
is_write Fence = false

abbrev pub writes_to : ℕ → Event → Bool
writes_to x e = is_write e.access && (e.loc == x)

-- the events of a thread in program order, and its registers at the end
pub record ThreadRun : Type 0 where
  pub events : List Event
  pub registers : List ℕ

-- init: the initial value of each location. runs: of each thread. rf: of each read, thread by thread in
-- program order, the write that it reads from. co: of each location, its writes in coherence order.
pub record GraphValue : Type 0 where
  pub init : List ℕ
  pub runs : List ThreadRun
  pub rf : List EventId
  pub co : List (List EventId)

abbrev pub empty_run : ThreadRun
empty_run = record { events = []; registers = [] }

-- the name is that of an initial write or of an event of the runs
abbrev pub IsNamed : List ℕ → List ThreadRun → EventId → Type 0
IsNamed init runs (Initial x) = x < length init
IsNamed init runs (Own k p) = (k < length runs) × (p < length (slice_index_or runs k empty_run).events)

-- What every graph keeps: at most 64 events with its initial writes, and rf and co name its own events.
pub record IsGraph (x : GraphValue) : Type 0 where
  pub few : length x.init + sum_by (λ run. length run.events) x.runs ≤ 64
  pub rf : All (IsNamed x.init x.runs) x.rf
  pub co : All (All (IsNamed x.init x.runs)) x.co
