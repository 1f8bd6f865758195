-- Where the final values of places stand in an execution.
use Rattle.std.specs.Prelude.{ℕ, List, slice_index_or}
use Rattle.events.specs.declared.event.EventId.{EventId}
use Rattle.events.specs.declared.event.EventId.TheVariants.{Initial}
use Rattle.events.specs.Executions.{GraphValue}
use Rattle.conditions.specs.declared.place.Place.{Place}
use Rattle.conditions.specs.declared.place.Place.TheVariants.{Reg, Loc}
use Rattle.litmus_tree.specs.Tree.{Litmus}
use Rattle.c11_threads.specs.Contents.{place_of}
use Rattle.c11_threads.specs.Runs.{thread_of}
use Rattle.candidates.specs.Candidates.{write_value}
use Rattle.slices.specs.declared.slot.Slot.{Slot}
use Rattle.slices.specs.declared.slot.Slot.TheVariants.{Register, Location}
use Rattle.slices.specs.Finals.{final_register, final_location}

-- the place of a register among those of its thread, or of a location among the test's
abbrev pub slot_of : Litmus → Place → Slot
slot_of t (Reg k r) = Register k (place_of r (thread_of t k).registers)
slot_of t (Loc y) = Location (place_of y t.locations)

-- the value that stands there in an execution
abbrev pub slot_value : GraphValue → Slot → ℕ
slot_value x (Register k r) = final_register x k r
slot_value x (Location y) = final_location x y

-- the value that stands there where these writes stand last, one of each location
abbrev pub slot_by : GraphValue → List EventId → Slot → ℕ
slot_by x lasts (Register k r) = final_register x k r
slot_by x lasts (Location y) = write_value x.init x.runs (slice_index_or lasts y (Initial y))
