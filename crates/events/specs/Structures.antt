-- Event structures: an execution without its witness, the read-from map and the coherence orders, and without its values, on which no set and no
-- relation rests. (Alglave, Maranget and Tautschnig, Herding cats, 2014, section 4.)
use Rattle.std.specs.Prelude.{ℕ, List, [], map}
use Rattle.events.specs.declared.event.Event.{Event}
use Rattle.events.specs.declared.event.EventId.{EventId}
use Rattle.events.specs.Executions.{GraphValue, ThreadRun}

-- an event, whatever value it reads or writes
abbrev pub unvalued : Event → Event
unvalued e = record { thread = e.thread; access = e.access; loc = e.loc; value = 0; order = e.order; data_from = e.data_from; ctrl_from = e.ctrl_from }

-- a run, whatever its values are
abbrev pub unvalued_run : ThreadRun → ThreadRun
unvalued_run run = record { events = map unvalued run.events; registers = [] }

-- an initial value, whatever it is
abbrev pub nought : ℕ → ℕ
nought v = 0

-- init: of each location. runs: of each thread. Each value stands as 0, and no register is told.
pub record Structure : Type 0 where
  pub init : List ℕ
  pub runs : List ThreadRun

-- the structure of these initial values and runs
abbrev pub structured : List ℕ → List ThreadRun → Structure
structured init runs = record { init = map nought init; runs = map unvalued_run runs }

-- the structure of an execution
abbrev pub structure_of : GraphValue → Structure
structure_of g = structured g.init g.runs

-- a structure as an execution that has no read-from map and no coherence order
abbrev pub bare : Structure → GraphValue
bare s = record { init = s.init; runs = s.runs; rf = []; co = [] }

-- an execution without its coherence orders and its values
pub record Sourced : Type 0 where
  pub structure : Structure
  pub rf : List EventId

-- the execution, if these are the sources of its reads
abbrev pub with_sources : GraphValue → List EventId → GraphValue
with_sources g sources = record { init = g.init; runs = g.runs; rf = sources; co = g.co }

abbrev pub sourced_of : GraphValue → Sourced
sourced_of g = record { structure = structure_of g; rf = g.rf }

-- the same as an execution that has no coherence order
abbrev pub plain : Sourced → GraphValue
plain s = record { init = s.structure.init; runs = s.structure.runs; rf = s.rf; co = [] }
