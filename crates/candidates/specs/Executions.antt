-- Executions of a test, and how many candidates there are.
-- After Alglave, Maranget and Tautschnig, Herding cats, 2014, section 4.
use Rattle.std.specs.Prelude.{◌≡◌, ℕ, suc, ◌*◌, List, [], ◌∷◌, ◌++◌, length, map, filter, true, if◌then◌else◌, slice_index_or}
use Rattle.std.specs.List.{flat_map}
use Rattle.events.specs.declared.event.Event.{Event}
use Rattle.events.specs.declared.event.EventId.{EventId}
use Rattle.events.specs.declared.event.EventId.TheVariants.{Initial, Own}
use Rattle.events.specs.Executions.{ThreadRun, GraphValue, is_read, writes_to}
use Rattle.listings.specs.Lists.{Lists, StandsAt, ForEach, product_by, sum_of, factorial, tabulate}
use Rattle.conditions.specs.declared.place.Place.TheVariants.{Loc}
use Rattle.conditions.specs.States.{value_at}
use Rattle.litmus_tree.specs.Tree.{Litmus}
use Rattle.c11_threads.specs.Runs.{IsRun}

-- the initial value of each location
abbrev pub initial_values : Litmus → List ℕ
initial_values t = map (λ x. value_at t.initial (Loc x)) t.locations

-- The event that is so named writes v to x. The initial write of x writes its initial value.
abbrev pub Writes : List ℕ → List ThreadRun → EventId → ℕ → ℕ → Type 0
Writes init runs (Initial y) x v = (y ≡ x) × (v ≡ slice_index_or init x 0)
Writes init runs (Own k p) x v = (run : ThreadRun) × (e : Event) × StandsAt runs k run × StandsAt run.events p e × (writes_to x e ≡ true) × (v ≡ e.value)

-- The reads of all threads, thread by thread, each in program order.
abbrev pub reads : List ThreadRun → List Event
reads runs = flat_map (λ run. filter (λ e. is_read e.access) run.events) runs

-- An order of all writes to x, the initial one first.
pub record IsCoherence (init : List ℕ) (runs : List ThreadRun) (x : ℕ) (order : List EventId) : Type 0 where
  pub first : StandsAt order 0 (Initial x)
  pub writes : Lists (λ w. (v : ℕ) × Writes init runs w x v) order

-- the numbers below n
abbrev pub upto : ℕ → List ℕ
upto n = tabulate n (λ i. i)

-- one run of each thread
abbrev pub IsChoice : Litmus → List ThreadRun → Type 0
IsChoice t runs = ForEach (IsRun t) (upto (length t.threads)) runs

-- An execution of t: a run of each thread, from the initial values; for each read a write to its location
-- of its value; for each location an order of its writes.
pub record IsExecution (t : Litmus) (x : GraphValue) : Type 0 where
  pub init : x.init ≡ initial_values t
  pub runs : IsChoice t x.runs
  pub rf : ForEach (λ r w. Writes x.init x.runs w r.loc r.value) (reads x.runs) x.rf
  pub co : ForEach (IsCoherence x.init x.runs) (upto (length t.locations)) x.co

-- the writes of a thread to x, where the first of the events has place p in it
abbrev pub writes_from : ℕ → ℕ → ℕ → List Event → List EventId
writes_from x k p [] = []
writes_from x k p (e ∷ events) = if writes_to x e then Own k p ∷ writes_from x k (suc p) events else writes_from x k (suc p) events

abbrev pub writes_from_thread : ℕ → ℕ → List ThreadRun → List EventId
writes_from_thread x k [] = []
writes_from_thread x k (run ∷ runs) = writes_from x k 0 run.events ++ writes_from_thread x (suc k) runs

-- the writes to x but the initial one
abbrev pub later_writes : List ThreadRun → ℕ → List EventId
later_writes runs x = writes_from_thread x 0 runs

-- how many candidates have these runs: the product over the reads of the number of writes to the read's location,
-- the initial one included, times the product over the locations of the factorial of the number of later writes
abbrev pub block : ℕ → List ThreadRun → ℕ
block locations runs =
    product_by (λ r. suc (length (later_writes runs r.loc))) (reads runs) * product_by (λ x. factorial (length (later_writes runs x))) (upto locations)

-- The size of a test: the number of candidates, summed over the choices of one run per thread.
abbrev pub IsSize : Litmus → ℕ → Type 0
IsSize t n = (choices : List (List ThreadRun)) × Lists (IsChoice t) choices × (n ≡ sum_of (block (length t.locations)) choices)
