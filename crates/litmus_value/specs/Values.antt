-- The values of a test: each constant of its initial state and of its programs, 0 and 1 among them, and each of these
-- with a sum of numbers that its calls add. (ISO/IEC 9899:2011, 7.17.7.5.)
use Rattle.std.specs.Prelude.{◌≡◌, ℕ, ◌+◌, ◌<◌, ◌≤◌, length, Any, ◌⊎◌, List, [], ◌∷◌, ◌++◌, map, Option, None, Some, if◌then◌else◌, ◌==◌}
use Rattle.std.specs.List.{flat_map, list_any}
use Rattle.conditions.specs.declared.place.Binding.{Binding}
use Rattle.listings.specs.Lists.{IsIn}
use Rattle.litmus_tree.specs.declared.tree.Computation.{Computation}
use Rattle.litmus_tree.specs.declared.tree.Computation.TheVariants.{Addition}
use Rattle.litmus_tree.specs.Tree.{Term, number, held, denied, equal, unequal, both, either, Growth, denies, joins, Action, load, store, exchange, modify, fence, Right, computed, plain_read, value_of, Step, empty, block, declare, assign, plain_write, perform, if_only, if_else, Steps, no_steps, in_turn, Program, Litmus}
use Rattle.litmus_value.specs.declared.values.ValuesFault.{ValuesFault}
use Rattle.litmus_value.specs.declared.values.ValuesFault.TheVariants.{TooMany, TooBig, NoMemory}

-- A number that stands in a program: a constant, or what a call adds to a location.
pub data Numeral : Type 0 where
  literal : ℕ → Numeral
  addend : ℕ → Numeral

-- Numerals in order, those of an arm that is never taken among them.

abbrev pub term_numerals : Term → List Numeral
term_numerals (number n) = literal n ∷ []
term_numerals (held r) = []
term_numerals (denied a) = term_numerals a
term_numerals (equal a b) = term_numerals a ++ term_numerals b
term_numerals (unequal a b) = term_numerals a ++ term_numerals b
term_numerals (both a b) = term_numerals a ++ term_numerals b
term_numerals (either a b) = term_numerals a ++ term_numerals b

-- those that a link adds to what stands before it
abbrev pub growth_numerals : Growth → List Numeral
growth_numerals denies = []
growth_numerals (joins o b) = term_numerals b

-- what the constant is that a call computes with
abbrev pub operand_numerals : Computation → ℕ → List Numeral
operand_numerals Addition c = addend c ∷ []

abbrev pub action_numerals : Action → List Numeral
action_numerals (load x o) = []
action_numerals (store x e o) = term_numerals e
action_numerals (exchange x e o) = term_numerals e
action_numerals (modify x f c o) = operand_numerals f c
action_numerals (fence o) = []

abbrev pub right_numerals : Right → List Numeral
right_numerals (computed e) = term_numerals e
right_numerals (plain_read x) = []
right_numerals (value_of a) = action_numerals a

abbrev pub optional_numerals : Option Right → List Numeral
optional_numerals None = []
optional_numerals (Some r) = right_numerals r

abbrev mutual
  pub step_numerals : Step → List Numeral
  step_numerals empty = []
  step_numerals (block ss) = steps_numerals ss
  step_numerals (declare ds) = flat_map (λ d. optional_numerals d.value) ds
  step_numerals (assign r v) = right_numerals v
  step_numerals (plain_write x e) = term_numerals e
  step_numerals (perform a) = action_numerals a
  step_numerals (if_only c a) = term_numerals c ++ step_numerals a
  step_numerals (if_else c a b) = term_numerals c ++ step_numerals a ++ step_numerals b

  pub steps_numerals : Steps → List Numeral
  steps_numerals no_steps = []
  steps_numerals (in_turn s ss) = step_numerals s ++ steps_numerals ss

abbrev pub program_numerals : Program → List Numeral
program_numerals p = steps_numerals p.steps

abbrev pub numerals_among : List Program → List Numeral
numerals_among threads = flat_map program_numerals threads

abbrev pub constants_in : List Numeral → List ℕ
constants_in [] = []
constants_in (literal k ∷ ns) = k ∷ constants_in ns
constants_in (addend c ∷ ns) = constants_in ns

abbrev pub adds_in : List Numeral → List ℕ
adds_in [] = []
adds_in (literal k ∷ ns) = adds_in ns
adds_in (addend c ∷ ns) = c ∷ adds_in ns

-- the constants of an initial state, and then those of programs, as they stand
abbrev pub constants_among : List Binding → List Program → List ℕ
constants_among initial threads = map (λ b. b.value) initial ++ constants_in (numerals_among threads)

-- what the calls of programs add, as they stand
abbrev pub adds_among : List Program → List ℕ
adds_among threads = adds_in (numerals_among threads)

-- the sums over the subsets of a list, in which each place counts once
abbrev pub sums : List ℕ → List ℕ
sums [] = 0 ∷ []
sums (c ∷ cs) = sums cs ++ map (λ s. c + s) (sums cs)

-- k is 0, 1 or a constant of an initial state or of programs
abbrev pub IsConstant : List Binding → List Program → ℕ → Type 0
IsConstant initial threads k = (k ≡ 0) ⊎ (k ≡ 1) ⊎ IsIn k (constants_among initial threads)

-- v is such a constant and a sum over a subset of the adds
pub record IsValue (initial : List Binding) (threads : List Program) (v : ℕ) : Type 0 where
  pub constant : ℕ
  pub sum : ℕ
  pub is_constant : IsConstant initial threads constant
  pub is_sum : IsIn sum (sums (adds_among threads))
  pub is : v ≡ constant + sum

-- v is a value of the test
abbrev pub InDom : Litmus → ℕ → Type 0
InDom t v = IsValue t.initial t.threads v

-- vs, and then v where it isn't among them
abbrev pub with_value : List ℕ → ℕ → List ℕ
with_value vs v = if list_any (λ w. w == v) vs then vs else vs ++ v ∷ []

-- vs, and then each of cs where it first stands
abbrev pub with_values : List ℕ → List ℕ → List ℕ
with_values vs [] = vs
with_values vs (c ∷ cs) = with_values (with_value vs c) cs

-- vs, and then each of them and c where that first stands
abbrev pub with_sum : List ℕ → ℕ → List ℕ
with_sum vs c = with_values vs (map (λ v. v + c) vs)

abbrev pub with_sums : List ℕ → List ℕ → List ℕ
with_sums vs [] = vs
with_sums vs (c ∷ cs) = with_sums (with_sum vs c) cs

-- 0, 1, and then each constant where it first stands; and then, one add after another, what it makes of those before
abbrev pub values_among : List Binding → List Program → List ℕ
values_among initial threads = with_sums (with_values (0 ∷ 1 ∷ []) (constants_among initial threads)) (adds_among threads)

abbrev pub values_of : Litmus → List ℕ
values_of t = values_among t.initial t.threads

-- why vs is no list of values of a test
abbrev pub Refuses : List ℕ → ValuesFault → Type 0
Refuses vs TooMany = 16 < length vs
Refuses vs TooBig = (length vs ≤ 16) × Any (λ v. 2147483647 < v) vs
Refuses vs NoMemory = Unit {0}
