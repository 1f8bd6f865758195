-- The numbering of candidates that this crate fixes: of the runs of a thread, of the choices of runs, of rf and of co.
use Rattle.std.specs.Prelude.{◌≡◌, ℕ, zero, suc, ◌/◌, ◌%◌, ◌<◌, ◌≤◌, List, [], ◌∷◌, ◌++◌, length, map, slice_index_or, Bool, true, if◌then◌else◌, ◌==◌, ◌&&◌, Option, None, Some, IfSome}
use Rattle.std.specs.List.{flat_map}
use Rattle.events.specs.declared.event.Event.{Event}
use Rattle.events.specs.declared.event.EventId.{EventId}
use Rattle.events.specs.declared.event.EventId.TheVariants.{Initial, Own}
use Rattle.events.specs.Executions.{ThreadRun, GraphValue, empty_run}
use Rattle.events.specs.Named.{no_event}
use Rattle.listings.specs.Lists.{Lists, sum_of, product_by, factorial}
use Rattle.listings.specs.Numbered.{digits, arrange, walk}
use Rattle.litmus_tree.specs.Tree.{Litmus}
use Rattle.c11_threads.specs.Unrolled.{runs_of}
use Rattle.candidates.specs.Executions.{initial_values, IsExecution, IsSize, reads, later_writes, upto, block}

-- The initial values, and the runs of each thread.
pub record Choices : Type 0 where
  pub init : List ℕ
  pub threads : List (List ThreadRun)

abbrev pub choices_of : Litmus → Choices
choices_of t = record { init = initial_values t; threads = map (runs_of t) (upto (length t.threads)) }

abbrev pub run_at : List ThreadRun → ℕ → ThreadRun
run_at runs i = slice_index_or runs i empty_run

-- the choices of one run of each thread: the run of the first thread is the slowest to change
abbrev pub choices : List (List ThreadRun) → List (List ThreadRun)
choices [] = [] ∷ []
choices (runs ∷ rest) = flat_map (λ run. map (λ c. run ∷ c) (choices rest)) runs

-- what a read of x may read from, whatever the value
abbrev pub sources : List ThreadRun → ℕ → List EventId
sources runs x = Initial x ∷ later_writes runs x

abbrev pub count_sources : List ThreadRun → Event → ℕ
count_sources runs r = suc (length (later_writes runs r.loc))

abbrev pub source_at : List ThreadRun → Event → ℕ → EventId
source_at runs r i = slice_index_or (sources runs r.loc) i (Initial 0)

abbrev pub count_orders : List ThreadRun → ℕ → ℕ
count_orders runs x = factorial (length (later_writes runs x))

abbrev pub order_at : List ThreadRun → ℕ → ℕ → List EventId
order_at runs x i = Initial x ∷ arrange (later_writes runs x) i

abbrev pub count_co : ℕ → List ThreadRun → ℕ
count_co locations runs = product_by (count_orders runs) (upto locations)

-- one value for each of as', by the digits of i, the highest first; the digit of a is below size a
abbrev pub digits_down : {A X : Type 0} → (A → ℕ) → (A → ℕ → X) → List A → ℕ → List X
digits_down size at [] i = []
digits_down size at (a ∷ rest) i = at a (i / product_by size rest) ∷ digits_down size at rest (i % product_by size rest)

-- what the reads read from by number i: what the first reads from is the slowest to change
abbrev pub rf_at : List ThreadRun → ℕ → List EventId
rf_at runs i = digits_down (count_sources runs) (source_at runs) (reads runs) i

-- the orders with the number k, of the writes to each location
abbrev pub orders_by : ℕ → List ThreadRun → ℕ → List (List EventId)
orders_by locations runs k = digits (count_orders runs) (order_at runs) (upto locations) k

-- the candidate of these runs with this number: co by the lower part of the number, rf by the higher part
abbrev pub candidate : List ℕ → List ThreadRun → ℕ → GraphValue
candidate init runs i = record {
  init = init;
  runs = runs;
  rf = rf_at runs (i / count_co (length init) runs);
  co = digits (count_orders runs) (order_at runs) (upto (length init)) (i % count_co (length init) runs);
}

abbrev pub no_execution : GraphValue
no_execution = record { init = []; runs = []; rf = []; co = [] }

abbrev pub candidate_at : Choices → ℕ → GraphValue
candidate_at s i = walk (block (length s.init)) (candidate s.init) no_execution (choices s.threads) i

-- the value that a write writes
abbrev pub write_value : List ℕ → List ThreadRun → EventId → ℕ
write_value init runs (Initial x) = slice_index_or init x 0
write_value init runs (Own k p) = (slice_index_or (run_at runs k).events p no_event).value

abbrev pub agree : List ℕ → List ThreadRun → List Event → List EventId → Bool
agree init runs [] ws = true
agree init runs (r ∷ rs) [] = true
agree init runs (r ∷ rs) (w ∷ ws) = (write_value init runs w == r.value) && agree init runs rs ws

-- Each read has the value of the write that it reads from.
abbrev pub is_consistent : GraphValue → Bool
is_consistent x = agree x.init x.runs (reads x.runs) x.rf

abbrev pub graph_at : Choices → ℕ → Option GraphValue
graph_at s i = if is_consistent (candidate_at s i) then Some (candidate_at s i) else None

-- The candidate with this number, where it is an execution.
abbrev pub At : Litmus → ℕ → Option GraphValue
At t i = graph_at (choices_of t) i

-- how many candidates there are
abbrev pub size_of : Choices → ℕ
size_of s = sum_of (block (length s.init)) (choices s.threads)

-- The law: each execution of the test stands at exactly one number below its size, and nothing else stands there.
pub record IsNumberedBy (t : Litmus) (n : ℕ) (at : ℕ → Option GraphValue) : Type 0 where
  pub only : (i : ℕ) → i < n → IfSome (at i) (IsExecution t)
  pub all : (x : GraphValue) → IsExecution t x → (i : ℕ) × (i < n) × (at i ≡ Some x)
  pub once : (x : GraphValue) (i j : ℕ) → i < n → j < n → at i ≡ Some x → at j ≡ Some x → i ≡ j

abbrev pub Numbering : Type 0
Numbering = (t : Litmus) (n : ℕ) → IsSize t n → IsNumberedBy t n (At t)

abbrev pub some_of : Option GraphValue → List GraphValue
some_of None = []
some_of (Some x) = x ∷ []

-- what stands at the numbers below n
abbrev pub found : (ℕ → Option GraphValue) → ℕ → List GraphValue
found at zero = []
found at (suc n) = found at n ++ some_of (at n)

-- The law that a count over the numbers rests on: what stands at the numbers below the size are the executions, each once.
abbrev pub Counting : Type 0
Counting = (t : Litmus) (n : ℕ) → IsSize t n → Lists (IsExecution t) (found (At t) n)

-- the number where it is at most the limit, and nothing where it is above
abbrev pub IsCapped : ℕ → ℕ → Option ℕ → Type 0
IsCapped limit n None = limit < n
IsCapped limit n (Some m) = (m ≡ n) × (n ≤ limit)
