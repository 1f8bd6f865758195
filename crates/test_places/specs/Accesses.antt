-- The events of a test's accesses, as they stand (docs/LITMUS.md, "Refusals", 21). An access here is a fence, too.
use Rattle.std.specs.Prelude.{ℕ, ◌+◌, ◌-◌, ◌==◌, max, List, [], ◌∷◌, Bool, true, false, Option, Some, None, if◌then◌else◌}
use Rattle.std.specs.List.{count_by}
use Rattle.litmus_syntax.specs.declared.symbol.Symbol.{Symbol}
use Rattle.litmus_syntax.specs.Drafts.{Listing, Written}
use Rattle.litmus_syntax.specs.Grammar.{Spells}
use Rattle.litmus_tree.specs.Tree.{Right, computed, plain_read, value_of, Declared, Step, empty, block, declare, assign, plain_write, perform, if_only, if_else, Steps, no_steps, in_turn}
use Rattle.litmus_value.specs.Limits.{action_events, right_events, optional_events}
use Rattle.test_places.specs.declared.mark.Mark.{Mark}
use Rattle.test_places.specs.declared.mark.Role.{Role}
use Rattle.test_places.specs.declared.mark.Role.TheVariants.{Calls, Accessed}
use Rattle.test_places.specs.Limits.{IsFirstOver, locations}

-- How many accesses there are in a statement, those of both arms of an `if` among them.

abbrev pub right_accesses : Right → ℕ
right_accesses (computed e) = 0
right_accesses (plain_read x) = 1
right_accesses (value_of a) = 1

abbrev pub optional_accesses : Option Right → ℕ
optional_accesses None = 0
optional_accesses (Some r) = right_accesses r

abbrev pub declared_accesses : List Declared → ℕ
declared_accesses [] = 0
declared_accesses (d ∷ ds) = optional_accesses d.value + declared_accesses ds

abbrev mutual
  pub step_accesses : Step → ℕ
  step_accesses empty = 0
  step_accesses (block ss) = steps_accesses ss
  step_accesses (declare ds) = declared_accesses ds
  step_accesses (assign r v) = right_accesses v
  step_accesses (plain_write x e) = 1
  step_accesses (perform a) = 1
  step_accesses (if_only c a) = step_accesses a
  step_accesses (if_else c a b) = step_accesses a + step_accesses b

  pub steps_accesses : Steps → ℕ
  steps_accesses no_steps = 0
  steps_accesses (in_turn s ss) = step_accesses s + steps_accesses ss

-- How many events a statement has on its longest way, where only the first n accesses count.

abbrev pub among : (n events : ℕ) → ℕ
among n events = if n == 0 then 0 else events

abbrev pub declared_among : ℕ → List Declared → ℕ
declared_among n [] = 0
declared_among n (d ∷ ds) = among n (optional_events d.value) + declared_among (n - optional_accesses d.value) ds

abbrev mutual
  pub step_among : ℕ → Step → ℕ
  step_among n empty = 0
  step_among n (block ss) = steps_among n ss
  step_among n (declare ds) = declared_among n ds
  step_among n (assign r v) = among n (right_events v)
  step_among n (plain_write x e) = among n 1
  step_among n (perform a) = among n (action_events a)
  step_among n (if_only c a) = step_among n a
  step_among n (if_else c a b) = max (step_among n a) (step_among (n - step_accesses a) b)

  pub steps_among : ℕ → Steps → ℕ
  steps_among n no_steps = 0
  steps_among n (in_turn s ss) = step_among n s + steps_among (n - step_accesses s) ss

abbrev pub threads_among : ℕ → List Listing → ℕ
threads_among n [] = 0
threads_among n (t ∷ ts) = steps_among n t.steps + threads_among (n - steps_accesses t.steps) ts

abbrev pub is_access_by : Role → Bool
is_access_by (Calls c) = true
is_access_by Accessed = true
is_access_by r = false

-- an access stands here: a call, or the location of a plain one
abbrev pub is_access : Mark → Bool
is_access m = is_access_by m.role

-- the initial write of each location, and the events of the accesses that stand in the front of the marks
abbrev pub events_with : (writes : ℕ) → List Listing → (front : List Mark) → ℕ
events_with writes threads front = writes + threads_among (count_by is_access front) threads

-- The symbols spell a test, and the mark at place k is the first with which it has more than 64 events.
pub record IsEventTooMany (ss : List Symbol) (ms : List Mark) (k : ℕ) : Type 0 where
  pub test : Written
  pub is_test : Spells ss test
  pub over : IsFirstOver (events_with (locations ms) test.threads) 64 ms k
