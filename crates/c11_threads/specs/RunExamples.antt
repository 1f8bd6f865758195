-- The runs of a thread that reads x into r, writes y in an arm where r isn't 0, and then writes r to y:
--   r = atomic_load_explicit(x, memory_order_relaxed);
--   if (r) atomic_store_explicit(y, 1, memory_order_relaxed);
--   atomic_store(y, r);
use Rattle.std.specs.Prelude.{◌≡◌, ℕ, [], ◌∷◌, ◌+◌}
use Rattle.relations.specs.Events.{EventSet}
use Rattle.events.specs.declared.event.Access.{Access}
use Rattle.events.specs.declared.event.Access.TheVariants.{Read, Write, ExRead, ExWrite}
use Rattle.events.specs.declared.event.Event.{Event}
use Rattle.events.specs.declared.event.Order.{Order}
use Rattle.events.specs.declared.event.Order.TheVariants.{Rlx, AcqRel, Sc}
use Rattle.events.specs.Executions.{ThreadRun, no_places}
use Rattle.conditions.specs.declared.condition.Kind.TheVariants.{Exists}
use Rattle.conditions.specs.Conditions.{truth}
use Rattle.litmus_tree.specs.declared.tree.Computation.TheVariants.{Addition}
use Rattle.litmus_tree.specs.Tree.{Word, number, held, load, store, exchange, modify, value_of, assign, perform, if_only, Steps, no_steps, in_turn, Litmus}
use Rattle.c11_threads.specs.Contents.{just}
use Rattle.c11_threads.specs.Unrolled.{runs_of}

abbrev pub x : Word
x = 120 ∷ []

abbrev pub y : Word
y = 121 ∷ []

abbrev pub r : Word
r = 114 ∷ []

-- the test of one thread with these statements, at the locations x and y and with the register r
abbrev pub test_of : Steps → Litmus
test_of steps = record {
  name = [];
  initial = [];
  threads = record { parameters = []; steps = steps; registers = r ∷ [] } ∷ [];
  condition = record { kind = Exists; formula = truth };
  listed = [];
  locations = x ∷ y ∷ [];
}

abbrev pub branching : Steps
branching =
    in_turn (assign r (value_of (load x Rlx)))
    (in_turn (if_only (held r) (perform (store y (number 1) Rlx)))
    (in_turn (perform (store y (held r) Sc)) no_steps))

-- an event of thread 0
abbrev pub event : Access → ℕ → ℕ → Order → EventSet → EventSet → Event
event a l v o reads tests = record { thread = 0; access = a; loc = l; value = v; order = o; data_from = reads; ctrl_from = tests }

-- The write in the arm is under the test, and the one after the join isn't; its data is the read that r holds.
abbrev pub where_zero : ThreadRun
where_zero = record {
  events = event Read 0 0 Rlx no_places no_places ∷ event Write 1 0 Sc (just 0) no_places ∷ [];
  registers = 0 ∷ [];
}

abbrev pub where_one : ThreadRun
where_one = record {
  events = event Read 0 1 Rlx no_places no_places ∷ event Write 1 1 Rlx no_places (just 0) ∷ event Write 1 1 Sc (just 0) no_places ∷ [];
  registers = 1 ∷ [];
}

abbrev pub BranchingRuns : Type 0
BranchingRuns = runs_of (test_of branching) 0 ≡ where_zero ∷ where_one ∷ []

-- r = atomic_exchange_explicit(x, 1, memory_order_acq_rel): a read of any value, and then a write with the same order
abbrev pub exchanged : ℕ → ThreadRun
exchanged v = record {
  events = event ExRead 0 v AcqRel no_places no_places ∷ event ExWrite 0 1 AcqRel no_places no_places ∷ [];
  registers = v ∷ [];
}

abbrev pub ExchangeRuns : Type 0
ExchangeRuns = runs_of (test_of (in_turn (assign r (value_of (exchange x (number 1) AcqRel))) no_steps)) 0 ≡ exchanged 0 ∷ exchanged 1 ∷ []

-- r = atomic_fetch_add_explicit(x, 1, memory_order_acq_rel), the only add: the values are 0, 1 and 2. It reads 0 or 1, which r gets,
-- and writes one more, which depends on its own read; 2 it can't read, since 3 is no value.
abbrev pub added : ℕ → ThreadRun
added v = record {
  events = event ExRead 0 v AcqRel no_places no_places ∷ event ExWrite 0 (v + 1) AcqRel (just 0) no_places ∷ [];
  registers = v ∷ [];
}

abbrev pub AdditionRuns : Type 0
AdditionRuns = runs_of (test_of (in_turn (assign r (value_of (modify x Addition 1 AcqRel))) no_steps)) 0 ≡ added 0 ∷ added 1 ∷ []
