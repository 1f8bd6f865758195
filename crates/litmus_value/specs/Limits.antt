-- The limits and the names of a test.
use Rattle.std.specs.Prelude.{ℕ, ◌+◌, ◌≤◌, List, length, sum_by, Contains, Option, None, Some, All, max}
use Rattle.litmus_tree.specs.Tree.{Word, Term, number, held, denied, equal, unequal, both, either, Action, load, store, exchange, modify, fence, Right, computed, plain_read, value_of, Step, empty, block, declare, assign, plain_write, perform, if_only, if_else, Steps, no_steps, in_turn, Program, Litmus}
use Rattle.litmus_value.specs.Values.{values_of}

-- How many events a statement has, on its longest way: an exchange and a modification read and write, and an `if` counts
-- by the arm that has more. A plain access is one event, as a call is.

abbrev pub action_events : Action → ℕ
action_events (load x o) = 1
action_events (store x e o) = 1
action_events (exchange x e o) = 2
action_events (modify x f c o) = 2
action_events (fence o) = 1

abbrev pub right_events : Right → ℕ
right_events (computed e) = 0
right_events (plain_read x) = 1
right_events (value_of a) = action_events a

abbrev pub optional_events : Option Right → ℕ
optional_events None = 0
optional_events (Some r) = right_events r

abbrev mutual
  pub step_events : Step → ℕ
  step_events empty = 0
  step_events (block ss) = steps_events ss
  step_events (declare ds) = sum_by (λ d. optional_events d.value) ds
  step_events (assign r v) = right_events v
  step_events (plain_write x e) = 1
  step_events (perform a) = action_events a
  step_events (if_only c a) = step_events a
  step_events (if_else c a b) = max (step_events a) (step_events b)

  pub steps_events : Steps → ℕ
  steps_events no_steps = 0
  steps_events (in_turn s ss) = step_events s + steps_events ss

abbrev pub program_events : Program → ℕ
program_events p = steps_events p.steps

-- The names of a statement are there: its locations among xs, its registers among rs.

abbrev pub TermNames : List Word → Term → Type 0
TermNames rs (number n) = Unit {0}
TermNames rs (held r) = Contains rs r
TermNames rs (denied a) = TermNames rs a
TermNames rs (equal a b) = TermNames rs a × TermNames rs b
TermNames rs (unequal a b) = TermNames rs a × TermNames rs b
TermNames rs (both a b) = TermNames rs a × TermNames rs b
TermNames rs (either a b) = TermNames rs a × TermNames rs b

abbrev pub ActionNames : List Word → List Word → Action → Type 0
ActionNames xs rs (load x o) = Contains xs x
ActionNames xs rs (store x e o) = Contains xs x × TermNames rs e
ActionNames xs rs (exchange x e o) = Contains xs x × TermNames rs e
ActionNames xs rs (modify x f c o) = Contains xs x
ActionNames xs rs (fence o) = Unit {0}

abbrev pub RightNames : List Word → List Word → Right → Type 0
RightNames xs rs (computed e) = TermNames rs e
RightNames xs rs (plain_read x) = Contains xs x
RightNames xs rs (value_of a) = ActionNames xs rs a

abbrev pub OptionalNames : List Word → List Word → Option Right → Type 0
OptionalNames xs rs None = Unit {0}
OptionalNames xs rs (Some r) = RightNames xs rs r

abbrev mutual
  pub StepNames : List Word → List Word → Step → Type 0
  StepNames xs rs empty = Unit {0}
  StepNames xs rs (block ss) = StepsNames xs rs ss
  StepNames xs rs (declare ds) = All (λ d. Contains rs d.register × OptionalNames xs rs d.value) ds
  StepNames xs rs (assign r v) = Contains rs r × RightNames xs rs v
  StepNames xs rs (plain_write x e) = Contains xs x × TermNames rs e
  StepNames xs rs (perform a) = ActionNames xs rs a
  StepNames xs rs (if_only c a) = TermNames rs c × StepNames xs rs a
  StepNames xs rs (if_else c a b) = TermNames rs c × StepNames xs rs a × StepNames xs rs b

  pub StepsNames : List Word → List Word → Steps → Type 0
  StepsNames xs rs no_steps = Unit {0}
  StepsNames xs rs (in_turn s ss) = StepNames xs rs s × StepsNames xs rs ss

abbrev pub ProgramNames : List Word → Program → Type 0
ProgramNames xs p = StepsNames xs p.registers p.steps

-- What every test keeps: at most 8 threads, 8 locations, 16 values that are no greater than 2,147,483,647, and 64 events
-- with one initial write of each location; and the locations and registers of its statements are among its own.
pub record IsTest (t : Litmus) : Type 0 where
  pub threads : length t.threads ≤ 8
  pub locations : length t.locations ≤ 8
  pub values : length (values_of t) ≤ 16
  pub small : All (λ v. v ≤ 2147483647) (values_of t)
  pub events : length t.locations + sum_by program_events t.threads ≤ 64
  pub names : All (ProgramNames t.locations) t.threads
