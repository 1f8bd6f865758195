-- The runs of a thread as a list: those of one statement, and then those of the statements after it.
use Rattle.std.specs.Prelude.{ℕ, List, [], ◌∷◌, map, slice_set, Option, None, Some, Bool, true, if◌then◌else◌, ◌==◌}
use Rattle.std.specs.List.{flat_map, filter, list_any}
use Rattle.relations.specs.Events.{EventSet}
use Rattle.events.specs.declared.event.Access.{Access}
use Rattle.events.specs.declared.event.Access.TheVariants.{Read, Write, Fence, ExRead, ExWrite}
use Rattle.events.specs.declared.event.Event.{Event}
use Rattle.events.specs.declared.event.Order.{Order}
use Rattle.events.specs.declared.event.Order.TheVariants.{Na}
use Rattle.events.specs.Executions.{ThreadRun, no_places}
use Rattle.listings.specs.Lists.{Lists}
use Rattle.litmus_tree.specs.Tree.{Word, Term, Action, load, store, exchange, modify, fence, computed_by, Right, computed, plain_read, value_of, Declared, Step, empty, block, declare, assign, plain_write, perform, if_only, if_else, Steps, no_steps, in_turn, Litmus}
use Rattle.litmus_value.specs.Values.{values_of}
use Rattle.c11_threads.specs.declared.reading.Behind.{Behind}
use Rattle.c11_threads.specs.declared.reading.Behind.TheVariants.{Nothing, Write as Writes, Modify}
use Rattle.c11_threads.specs.declared.reading.Reading.{Reading}
use Rattle.c11_threads.specs.declared.content.Content.{Content}
use Rattle.c11_threads.specs.Contents.{place_of, joined, nothing, is_true, content_in, modified}
use Rattle.c11_threads.specs.Runs.{Progress, after, next_read, thread_of, start, run_of, IsRun}

-- What a statement stands in: the number of its thread, the names of locations and registers, the values of the test, and the
-- reads that reached the tests of the arms around.
pub record Setting : Type 0 where
  pub thread : ℕ
  pub locations : List Word
  pub registers : List Word
  pub values : List ℕ
  pub ctrl : EventSet

abbrev pub setting_of : Litmus → ℕ → EventSet → Setting
setting_of t k c = record { thread = k; locations = t.locations; registers = (thread_of t k).registers; values = values_of t; ctrl = c }

-- the registers, where one of them or none is given w
abbrev pub given : Option ℕ → Content → List Content → List Content
given None w registers = registers
given (Some r) w registers = slice_set registers r w

-- p, where one register or none is given w
abbrev pub giving : Option ℕ → Content → Progress → Progress
giving r w p = record { events = p.events; registers = given r w p.registers }

-- an event with the value w and what it depends on
abbrev pub event : Setting → Access → ℕ → Order → Content → Event
event s a x o w = record { thread = s.thread; access = a; loc = x; value = w.value; order = o; data_from = w.reads; ctrl_from = s.ctrl }

-- an access to location x
abbrev pub accesses : Setting → Access → Word → Order → Content → Event
accesses s a x o w = event s a (place_of x s.locations) o w

-- the event e with the value v
abbrev pub reading : Event → ℕ → Event
reading e v = record { thread = e.thread; access = e.access; loc = e.loc; value = v; order = e.order; data_from = e.data_from; ctrl_from = e.ctrl_from }

-- the event e with the value of w and what that depends on
abbrev pub writing : Event → Content → Event
writing e w = record { thread = e.thread; access = e.access; loc = e.loc; value = w.value; order = e.order; data_from = w.reads; ctrl_from = e.ctrl_from }

-- the events that stand behind a read in the same step, where w is what it reads
abbrev pub events_behind : Behind → Content → List Event
events_behind Nothing w = []
events_behind (Writes e) w = e ∷ []
events_behind (Modify f k e) w = writing e (modified f k w) ∷ []

-- the read may read v: what is then computed is one of the values
abbrev pub may_read : List ℕ → Behind → ℕ → Bool
may_read values Nothing v = true
may_read values (Writes e) v = true
may_read values (Modify f k e) v = list_any (λ u. u == computed_by f v k) values

-- the one way on from p with the event e and no value
abbrev pub event_runs : Event → Option ℕ → Progress → List Progress
event_runs e r p = giving r nothing (after p (e ∷ [])) ∷ []

-- p, which reads v so, then has what stands behind it, and gives v to the register, if there is one
abbrev pub having_read : Reading → Progress → ℕ → Progress
having_read r p v = giving r.register (next_read p v) (after p (reading r.event v ∷ events_behind r.behind (next_read p v)))

-- the ways on from p that read each of the values that may be read so
abbrev pub read_runs : Setting → Reading → Progress → List Progress
read_runs s r p = map (having_read r p) (filter (may_read s.values r.behind) s.values)

-- the read of a load, or of a plain read
abbrev pub loading : Setting → Word → Order → Option ℕ → Reading
loading s x o r = record { event = accesses s Read x o nothing; behind = Nothing; register = r }

-- the read of a call that writes, too
abbrev pub updating : Setting → Word → Order → Behind → Option ℕ → Reading
updating s x o b r = record { event = accesses s ExRead x o nothing; behind = b; register = r }

-- what an expression gives at p
abbrev pub given_at : Setting → Progress → Term → Content
given_at s p e = content_in s.registers p.registers e

abbrev pub call_runs : Setting → Action → Option ℕ → Progress → List Progress
call_runs s (load x o) r p = read_runs s (loading s x o r) p
call_runs s (store x e o) r p = event_runs (accesses s Write x o (given_at s p e)) r p
call_runs s (exchange x e o) r p = read_runs s (updating s x o (Writes (accesses s ExWrite x o (given_at s p e))) r) p
call_runs s (modify x f k o) r p = read_runs s (updating s x o (Modify f k (accesses s ExWrite x o nothing)) r) p
call_runs s (fence o) r p = event_runs (event s Fence 0 o nothing) r p

abbrev pub right_runs : Setting → Right → ℕ → Progress → List Progress
right_runs s (computed e) r p = giving (Some r) (given_at s p e) p ∷ []
right_runs s (plain_read x) r p = read_runs s (loading s x Na (Some r)) p
right_runs s (value_of a) r p = call_runs s a (Some r) p

abbrev pub optional_runs : Setting → Option Right → ℕ → Progress → List Progress
optional_runs s None r p = giving (Some r) nothing p ∷ []
optional_runs s (Some right) r p = right_runs s right r p

abbrev pub declare_runs : Setting → Declared → Progress → List Progress
declare_runs s d p = optional_runs s d.value (place_of d.register s.registers) p

abbrev pub declares_runs : Setting → List Declared → Progress → List Progress
declares_runs s [] p = p ∷ []
declares_runs s (d ∷ ds) p = flat_map (declares_runs s ds) (declare_runs s d p)

-- the setting of an arm whose test these reads reached: they come to those of the tests around
abbrev pub in_arm : Setting → EventSet → Setting
in_arm s reads = record { thread = s.thread; locations = s.locations; registers = s.registers; values = s.values; ctrl = joined s.ctrl reads }

-- the setting of an arm whose test is e
abbrev pub under : Setting → Term → Progress → Setting
under s e p = in_arm s (given_at s p e).reads

abbrev pub holds : Setting → Term → Progress → Bool
holds s e p = is_true (given_at s p e).value

abbrev mutual
  pub step_runs : Step → Setting → Progress → List Progress
  step_runs empty s p = p ∷ []
  step_runs (block steps) s p = steps_runs steps s p
  step_runs (declare ds) s p = declares_runs s ds p
  step_runs (assign r right) s p = right_runs s right (place_of r s.registers) p
  step_runs (plain_write x e) s p = event_runs (accesses s Write x Na (given_at s p e)) None p
  step_runs (perform a) s p = call_runs s a None p
  step_runs (if_only e a) s p = if holds s e p then step_runs a (under s e p) p else p ∷ []
  step_runs (if_else e a b) s p = if holds s e p then step_runs a (under s e p) p else step_runs b (under s e p) p

  pub steps_runs : Steps → Setting → Progress → List Progress
  steps_runs no_steps s p = p ∷ []
  steps_runs (in_turn a rest) s p = flat_map (steps_runs rest s) (step_runs a s p)

-- where thread k can end, from its start
abbrev pub ends_of : Litmus → ℕ → List Progress
ends_of t k = steps_runs (thread_of t k).steps (setting_of t k no_places) (start t k)

-- the runs of thread k: the value of the first read is the slowest to change
abbrev pub runs_of : Litmus → ℕ → List ThreadRun
runs_of t k = map run_of (ends_of t k)

-- The law: the runs of a thread as a list are its runs, each once.
abbrev pub Listing : Type 0
Listing = (t : Litmus) (k : ℕ) → Lists (IsRun t k) (runs_of t k)
