-- The final state of an execution. (Alglave, Maranget and Tautschnig, Herding cats, 2014, section 4; herd7 manual,
-- final conditions.)
use Rattle.std.specs.Prelude.{ℕ, List, [], ◌∷◌, map, Bool, slice_index_or}
use Rattle.events.specs.declared.event.EventId.TheVariants.{Initial}
use Rattle.events.specs.Executions.{GraphValue}
use Rattle.conditions.specs.declared.place.Place.{Place}
use Rattle.conditions.specs.declared.place.Place.TheVariants.{Reg, Loc}
use Rattle.litmus_tree.specs.Tree.{Litmus}
use Rattle.conditions.specs.States.{bindings, holds_in}
use Rattle.c11_threads.specs.Contents.{place_of}
use Rattle.c11_threads.specs.Runs.{thread_of}
use Rattle.candidates.specs.Candidates.{run_at, write_value}

-- register r at the end of the run of thread k
abbrev pub final_register : GraphValue → ℕ → ℕ → ℕ
final_register x k r = slice_index_or (run_at x.runs k).registers r 0

abbrev pub last_or : {X : Type 0} → X → List X → X
last_or w [] = w
last_or w (v ∷ vs) = last_or v vs

-- the value of the co-last write to location y
abbrev pub final_location : GraphValue → ℕ → ℕ
final_location x y = write_value x.init x.runs (last_or (Initial y) (slice_index_or x.co y []))

-- The final value of a place: a register's at the end of its run, a location's of its co-last write.
abbrev pub final : Litmus → GraphValue → Place → ℕ
final t x (Reg k r) = final_register x k (place_of r (thread_of t k).registers)
final t x (Loc y) = final_location x (place_of y t.locations)

-- the final values at the places
abbrev pub obs : Litmus → List Place → GraphValue → List ℕ
obs t places x = map (final t x) places

-- whether the final state, with these places, has the proposition of the test
abbrev pub has : Litmus → List Place → GraphValue → Bool
has t places x = holds_in (bindings places (obs t places x)) t.condition.formula
