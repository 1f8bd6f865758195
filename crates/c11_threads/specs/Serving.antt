-- The values of a test serve its statements: each read can read 0, so that no way ends before its last statement, and what is
-- computed of two of them is a number of 32 bits.
use Rattle.std.specs.Prelude.{ℕ, ◌<◌, ◌≤◌, ◌^◌, List, All, Option, None, Some}
use Rattle.listings.specs.Lists.{IsIn}
use Rattle.litmus_tree.specs.Tree.{Action, load, store, exchange, modify, fence, computed_by, Right, computed, plain_read, value_of, Declared, Step, empty, block, declare, assign, plain_write, perform, if_only, if_else, Steps, no_steps, in_turn}
use Rattle.c11_threads.specs.declared.reading.Behind.{Behind}
use Rattle.c11_threads.specs.declared.reading.Behind.TheVariants.{Nothing, Write as Writes, Modify}

-- each of the values is at most the largest number of a text
abbrev pub AreSmall : List ℕ → Type 0
AreSmall = All (λ v. v ≤ 2147483647)

-- what stands behind a read of v has a value of 32 bits
abbrev pub IsComputable : Behind → ℕ → Type 0
IsComputable Nothing v = Unit {0}
IsComputable (Writes e) v = Unit {0}
IsComputable (Modify f k e) v = computed_by f v k < 2 ^ 32

-- 0 is one of the values if anything is read, and so is each constant with which something is modified.

abbrev pub ServesRead : List ℕ → Behind → Type 0
ServesRead values Nothing = IsIn 0 values
ServesRead values (Writes e) = IsIn 0 values
ServesRead values (Modify f k e) = IsIn 0 values × IsIn k values

abbrev pub ServesCall : List ℕ → Action → Type 0
ServesCall values (load x o) = IsIn 0 values
ServesCall values (store x e o) = Unit {0}
ServesCall values (exchange x e o) = IsIn 0 values
ServesCall values (modify x f k o) = IsIn 0 values × IsIn k values
ServesCall values (fence o) = Unit {0}

abbrev pub ServesRight : List ℕ → Right → Type 0
ServesRight values (computed e) = Unit {0}
ServesRight values (plain_read x) = IsIn 0 values
ServesRight values (value_of a) = ServesCall values a

abbrev pub ServesOption : List ℕ → Option Right → Type 0
ServesOption values None = Unit {0}
ServesOption values (Some right) = ServesRight values right

abbrev pub ServesAll : List ℕ → List Declared → Type 0
ServesAll values = All (λ d. ServesOption values d.value)

abbrev mutual
  pub Serves : List ℕ → Step → Type 0
  Serves values empty = Unit {0}
  Serves values (block steps) = ServesSteps values steps
  Serves values (declare ds) = ServesAll values ds
  Serves values (assign r right) = ServesRight values right
  Serves values (plain_write x e) = Unit {0}
  Serves values (perform a) = ServesCall values a
  Serves values (if_only e a) = Serves values a
  Serves values (if_else e a b) = Serves values a × Serves values b

  pub ServesSteps : List ℕ → Steps → Type 0
  ServesSteps values no_steps = Unit {0}
  ServesSteps values (in_turn a rest) = Serves values a × ServesSteps values rest
