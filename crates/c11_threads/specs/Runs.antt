-- The runs of a thread, as a big-step relation by cases on its statements.
-- (ISO/IEC 9899:2011, 6.8.4.1 and 7.17; herd7 manual, C litmus tests; Alglave, Maranget and Tautschnig, Herding cats,
-- 2014, section 5, on dependencies.)
use Rattle.std.specs.Prelude.{◌≡◌, ℕ, List, [], ◌∷◌, ◌++◌, length, map, slice_index_or, slice_set, Option, None, Some, Bool, true, false}
use Rattle.relations.specs.Events.{EventSet}
use Rattle.events.specs.declared.event.Access.{Access}
use Rattle.events.specs.declared.event.Access.TheVariants.{Read, Write, Fence, ExRead, ExWrite}
use Rattle.events.specs.declared.event.Event.{Event}
use Rattle.events.specs.declared.event.Order.{Order}
use Rattle.events.specs.declared.event.Order.TheVariants.{Na}
use Rattle.events.specs.Executions.{ThreadRun, no_places}
use Rattle.conditions.specs.declared.place.Place.TheVariants.{Reg}
use Rattle.litmus_tree.specs.declared.tree.Computation.{Computation}
use Rattle.litmus_tree.specs.Tree.{Word, Term, Action, load, store, exchange, modify, fence, computed_by, Right, computed, plain_read, value_of, Declared, Step, empty, block, declare, assign, plain_write, perform, if_only, if_else, Steps, no_steps, in_turn, Program, Litmus}
use Rattle.conditions.specs.States.{value_at}
use Rattle.litmus_value.specs.Values.{InDom}
use Rattle.c11_threads.specs.declared.content.Content.{Content}
use Rattle.c11_threads.specs.Contents.{place_of, just, joined, nothing, is_true, content_in, modified}

-- A thread on its way: its events so far, and what each of its registers holds.
pub record Progress : Type 0 where
  pub events : List Event
  pub registers : List Content

-- p, and then these events
abbrev pub after : Progress → List Event → Progress
after p events = record { events = p.events ++ events; registers = p.registers }

-- p, where the register at place r now holds w; what it held is gone
abbrev pub holding : ℕ → Content → Progress → Progress
holding r w p = record { events = p.events; registers = slice_set p.registers r w }

-- the value v, read by the next event of p
abbrev pub next_read : Progress → ℕ → Content
next_read p v = record { value = v; reads = just (length p.events) }

-- Where a statement stands: in thread k of t, in arms whose tests the reads ctrl reached.
pub record Site : Type 0 where
  pub test : Litmus
  pub thread : ℕ
  pub ctrl : EventSet

abbrev pub no_program : Program
no_program = record { parameters = []; steps = no_steps; registers = [] }

-- thread k
abbrev pub thread_of : Litmus → ℕ → Program
thread_of t k = slice_index_or t.threads k no_program

-- the names of the registers
abbrev pub names : Site → List Word
names s = (thread_of s.test s.thread).registers

-- what an expression gives
abbrev pub given_by : Site → Progress → Term → Content
given_by s p e = content_in (names s) p.registers e

-- the site of an arm whose test is e: its reads come to those of the tests around
abbrev pub inside : Site → Progress → Term → Site
inside s p e = record { test = s.test; thread = s.thread; ctrl = joined s.ctrl (given_by s p e).reads }

-- An event of a read of x with value v, of a write of w to x, and of a fence. What a write depends on is what its value's
-- expression gives.
abbrev pub reads_from : Site → Access → Word → Order → ℕ → Event
reads_from s a x o v = record { thread = s.thread; access = a; loc = place_of x s.test.locations; value = v; order = o; data_from = no_places; ctrl_from = s.ctrl }

abbrev pub writes_into : Site → Access → Word → Order → Content → Event
writes_into s a x o w = record { thread = s.thread; access = a; loc = place_of x s.test.locations; value = w.value; order = o; data_from = w.reads; ctrl_from = s.ctrl }

abbrev pub fences : Site → Order → Event
fences s o = record { thread = s.thread; access = Fence; loc = 0; value = 0; order = o; data_from = no_places; ctrl_from = s.ctrl }

-- What it writes when it reads v is a value of the test, as v is.
abbrev pub CanModify : Litmus → Computation → ℕ → ℕ → Type 0
CanModify t f k v = InDom t v × InDom t (computed_by f v k)

-- The call leads from p to q and gives w. A load reads any value of the test. An exchange reads any, and then writes, with
-- the same order. What modifies reads any of which it computes a value of the test, writes that, with the same order, and gives
-- what it read: what it writes depends on its own read alone. A store and a fence give nothing.
abbrev pub Calls : Site → Action → Progress → Content → Progress → Type 0
Calls s (load x o) p w q = (v : ℕ) × InDom s.test v × (w ≡ next_read p v) × (q ≡ after p (reads_from s Read x o v ∷ []))
Calls s (store x e o) p w q = (w ≡ nothing) × (q ≡ after p (writes_into s Write x o (given_by s p e) ∷ []))
Calls s (exchange x e o) p w q =
    (v : ℕ) × InDom s.test v × (w ≡ next_read p v) × (q ≡ after p (reads_from s ExRead x o v ∷ writes_into s ExWrite x o (given_by s p e) ∷ []))
Calls s (modify x f k o) p w q =
    (v : ℕ) × CanModify s.test f k v × (w ≡ next_read p v)
    × (q ≡ after p (reads_from s ExRead x o v ∷ writes_into s ExWrite x o (modified f k (next_read p v)) ∷ []))
Calls s (fence o) p w q = (w ≡ nothing) × (q ≡ after p (fences s o ∷ []))

-- The right side of an assignment leads from p to q and gives w. A plain read reads any value of the test.
abbrev pub Gives : Site → Right → Progress → Content → Progress → Type 0
Gives s (computed e) p w q = (w ≡ given_by s p e) × (q ≡ p)
Gives s (plain_read x) p w q = (v : ℕ) × InDom s.test v × (w ≡ next_read p v) × (q ≡ after p (reads_from s Read x Na v ∷ []))
Gives s (value_of a) p w q = Calls s a p w q

-- The register is given the value of the right side.
abbrev pub Assigns : Site → Word → Right → Progress → Progress → Type 0
Assigns s r right p q = (w : Content) × (m : Progress) × Gives s right p w m × (q ≡ holding (place_of r (names s)) w m)

-- The register is declared, with 0 where it isn't given a value.
abbrev pub Declares : Site → Word → Option Right → Progress → Progress → Type 0
Declares s r None p q = q ≡ holding (place_of r (names s)) nothing p
Declares s r (Some right) p q = Assigns s r right p q

-- Declarations one after another.
abbrev pub DeclaresAll : Site → List Declared → Progress → Progress → Type 0
DeclaresAll s [] p q = q ≡ p
DeclaresAll s (d ∷ ds) p q = (m : Progress) × Declares s d.register d.value p m × DeclaresAll s ds m q

-- A branch takes its first arm where its test is true, and its second where it is false.
abbrev pub Branches : Bool → Type 0 → Type 0 → Type 0
Branches true first second = first
Branches false first second = second

abbrev mutual
  -- The statement leads from p to q.
  pub Performs : Step → Site → Progress → Progress → Type 0
  Performs empty s p q = q ≡ p
  Performs (block steps) s p q = PerformsAll steps s p q
  Performs (declare ds) s p q = DeclaresAll s ds p q
  Performs (assign r right) s p q = Assigns s r right p q
  Performs (plain_write x e) s p q = q ≡ after p (writes_into s Write x Na (given_by s p e) ∷ [])
  Performs (perform a) s p q = (w : Content) × Calls s a p w q
  Performs (if_only e a) s p q = Branches (is_true (given_by s p e).value) (Performs a (inside s p e) p q) (q ≡ p)
  Performs (if_else e a b) s p q = Branches (is_true (given_by s p e).value) (Performs a (inside s p e) p q) (Performs b (inside s p e) p q)

  -- Statements one after another, each at the same site: an arm's test is no test of what stands after the join.
  pub PerformsAll : Steps → Site → Progress → Progress → Type 0
  PerformsAll no_steps s p q = q ≡ p
  PerformsAll (in_turn a rest) s p q = (m : Progress) × Performs a s p m × PerformsAll rest s m q

-- the site of a thread's statements that stand in no arm
abbrev pub body : Litmus → ℕ → Site
body t k = record { test = t; thread = k; ctrl = no_places }

-- what a register of thread k holds at its start: its initial value, which no read reached
abbrev pub initial_content : Litmus → ℕ → Word → Content
initial_content t k r = record { value = value_at t.initial (Reg k r); reads = no_places }

abbrev pub initial_contents : Litmus → ℕ → List Content
initial_contents t k = map (initial_content t k) (thread_of t k).registers

-- thread k at its start, where no event has been
abbrev pub start : Litmus → ℕ → Progress
start t k = record { events = []; registers = initial_contents t k }

-- a thread's run, when it has come so far
abbrev pub run_of : Progress → ThreadRun
run_of p = record { events = p.events; registers = map (λ w. w.value) p.registers }

-- A run of thread k of t: its statements lead from its start to the end of the run.
abbrev pub IsRun : Litmus → ℕ → ThreadRun → Type 0
IsRun t k run = (end : Progress) × PerformsAll (thread_of t k).steps (body t k) (start t k) end × (run ≡ run_of end)
