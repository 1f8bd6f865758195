-- The test that the written parts make, and the rules and limits that it keeps. (herd7 manual, C litmus tests.)
use Rattle.std.specs.Prelude.{◌≡◌, ℕ, suc, ◌+◌, ◌≤◌, ◌<◌, ◌==◌, List, [], ◌∷◌, ◌++◌, map, length, sum_by, Bool, true, false, not, ◌&&◌, if◌then◌else◌, Option, Some, None, slice_get, All, Any}
use Rattle.std.specs.List.{flat_map, list_any, list_all}
use Rattle.std.specs.Str.{bytes_eq}
use Rattle.conditions.specs.declared.place.Binding.{Binding}
use Rattle.conditions.specs.declared.place.Place.{Place}
use Rattle.conditions.specs.declared.place.Place.TheVariants.{Reg, Loc}
use Rattle.conditions.specs.contracts.place.PlacePartialEq.TheImpl.{ghosts as place_equality}
use Rattle.litmus_c.specs.declared.fault.TestFault.{TestFault}
use Rattle.litmus_c.specs.declared.fault.TestFault.TheVariants.{Text, Syntax, BadOrder, UnknownName, PlainOnAtomic, AtomicOnPlain, Unsupported, TooDeep, TooManyThreads, TooManyLocations, TooManyEvents, TooManyValues, ValueTooBig, NoMemory}
use Rattle.litmus_tree.specs.contracts.tree.LocationKindPartialEq.TheImpl.{ghosts as kind_equality}
use Rattle.litmus_c.specs.declared.rules.Rule.{Rule}
use Rattle.litmus_c.specs.declared.rules.Rule.TheVariants.{Names, PlainAccess, AtomicAccess}
use Rattle.litmus_tree.specs.declared.tree.LocationKind.{LocationKind}
use Rattle.litmus_tree.specs.declared.tree.LocationKind.TheVariants.{Atomic, Plain}
use Rattle.litmus_tree.specs.declared.tree.Parameter.{Parameter}
use Rattle.conditions.specs.Conditions as chains
use Rattle.conditions.specs.Conditions.{Formula, truth, falsehood, equals, negation, conjunction, disjunction, implication}
use Rattle.litmus_syntax.specs.Drafts.{Listing, Written, is_parameter}
use Rattle.litmus_value.specs.Limits.{program_events}
use Rattle.litmus_tree.specs.Names.{is_one_of, with_names}
use Rattle.litmus_tree.specs.Tree.{Word, Term, number, held, denied, equal, unequal, both, either, Growth, denies, joins, Action, load, store, exchange, modify, fence, Right, computed, plain_read, value_of, Declared, Step, empty, block, declare, assign, plain_write, perform, if_only, if_else, Steps, no_steps, in_turn, Program, Litmus}
use Rattle.litmus_value.specs.Values.{values_of}

-- The initial state.

abbrev pub is_given : List Binding → Place → Bool
is_given bs p = list_any (λ b. place_equality.eq b.place p) bs

-- of two entries for one place the later holds
abbrev pub lasting : List Binding → List Binding
lasting [] = []
lasting (b ∷ bs) = if is_given bs b.place then lasting bs else b ∷ lasting bs

-- Locations: those of the entries, and then the parameters of each thread.

abbrev pub place_locations : Place → List Word
place_locations (Loc x) = x ∷ []
place_locations (Reg k x) = []

abbrev pub parameter_names : Listing → List Word
parameter_names t = map (λ p. p.name) t.parameters

abbrev pub locations_of : Written → List Word
locations_of w = with_names (with_names [] (flat_map (λ b. place_locations b.place) w.entries)) (flat_map parameter_names w.threads)

-- Registers of a thread: those of its entries, and then those that it declares or assigns.

abbrev pub place_registers : ℕ → Place → List Word
place_registers k (Reg j x) = if j == k then x ∷ [] else []
place_registers k (Loc x) = []

abbrev mutual
  pub step_registers : Step → List Word
  step_registers empty = []
  step_registers (block ss) = steps_registers ss
  step_registers (declare ds) = map (λ d. d.register) ds
  step_registers (assign r v) = r ∷ []
  step_registers (plain_write x e) = []
  step_registers (perform a) = []
  step_registers (if_only c a) = step_registers a
  step_registers (if_else c a b) = step_registers a ++ step_registers b

  pub steps_registers : Steps → List Word
  steps_registers no_steps = []
  steps_registers (in_turn s ss) = step_registers s ++ steps_registers ss

abbrev pub registers_of : ℕ → List Binding → Steps → List Word
registers_of k es ss = with_names (with_names [] (flat_map (λ b. place_registers k b.place) es)) (steps_registers ss)

-- The test.

abbrev pub program_of : ℕ → List Binding → Listing → Program
program_of k es t = record { parameters = t.parameters; steps = t.steps; registers = registers_of k es t.steps }

-- the threads from number k on
abbrev pub programs_of : ℕ → List Binding → List Listing → List Program
programs_of k es [] = []
programs_of k es (t ∷ ts) = program_of k es t ∷ programs_of (suc k) es ts

abbrev pub litmus_of : Written → Litmus
litmus_of w = record { name = w.name; initial = lasting w.entries; threads = programs_of 0 w.entries w.threads; condition = w.condition; listed = w.listed; locations = locations_of w }

-- Names that are used are there.

abbrev pub passes : {A : Type 0} → (A → Bool) → Option A → Bool
passes test None = false
passes test (Some a) = test a

-- an entry's register belongs to a thread, and is no parameter of it
abbrev pub entry_is_fair : List Program → Place → Bool
entry_is_fair ps (Reg k x) = passes (λ p. not (is_parameter p.parameters x)) (slice_get ps k)
entry_is_fair ps (Loc x) = true

-- Three rules of a thread with the parameters ps and the registers rs. Names: what is used is there, and no parameter
-- is a register. PlainAccess: no plain access is to an atomic location. AtomicAccess: no call is on a plain location.

-- a parameter has this name and this kind
abbrev pub is_of : LocationKind → Word → Parameter → Bool
is_of k x p = bytes_eq p.name x && kind_equality.eq p.kind k

-- no parameter of this name has this kind
abbrev pub has_other_kind : List Parameter → LocationKind → Word → Bool
has_other_kind ps k x = not (list_any (is_of k x) ps)

-- a register is read
abbrev pub may_read : Rule → List Parameter → List Word → Word → Bool
may_read Names ps rs r = is_one_of rs r
may_read PlainAccess ps rs r = true
may_read AtomicAccess ps rs r = true

-- a register is declared or assigned
abbrev pub may_give : Rule → List Parameter → List Word → Word → Bool
may_give Names ps rs r = not (is_parameter ps r)
may_give PlainAccess ps rs r = true
may_give AtomicAccess ps rs r = true

-- a call is on a location
abbrev pub may_call : Rule → List Parameter → List Word → Word → Bool
may_call Names ps rs x = is_parameter ps x
may_call PlainAccess ps rs x = true
may_call AtomicAccess ps rs x = has_other_kind ps Plain x

-- a plain access is to a location
abbrev pub may_access : Rule → List Parameter → List Word → Word → Bool
may_access Names ps rs x = is_parameter ps x
may_access PlainAccess ps rs x = has_other_kind ps Atomic x
may_access AtomicAccess ps rs x = true

abbrev pub term_keeps : Rule → List Parameter → List Word → Term → Bool
term_keeps k ps rs (number n) = true
term_keeps k ps rs (held r) = may_read k ps rs r
term_keeps k ps rs (denied a) = term_keeps k ps rs a
term_keeps k ps rs (equal a b) = term_keeps k ps rs a && term_keeps k ps rs b
term_keeps k ps rs (unequal a b) = term_keeps k ps rs a && term_keeps k ps rs b
term_keeps k ps rs (both a b) = term_keeps k ps rs a && term_keeps k ps rs b
term_keeps k ps rs (either a b) = term_keeps k ps rs a && term_keeps k ps rs b

-- what a link puts behind an expression
abbrev pub growth_keeps : Rule → List Parameter → List Word → Growth → Bool
growth_keeps k ps rs denies = true
growth_keeps k ps rs (joins o b) = term_keeps k ps rs b

abbrev pub action_keeps : Rule → List Parameter → List Word → Action → Bool
action_keeps k ps rs (load x o) = may_call k ps rs x
action_keeps k ps rs (store x e o) = may_call k ps rs x && term_keeps k ps rs e
action_keeps k ps rs (exchange x e o) = may_call k ps rs x && term_keeps k ps rs e
action_keeps k ps rs (modify x f c o) = may_call k ps rs x
action_keeps k ps rs (fence o) = true

abbrev pub right_keeps : Rule → List Parameter → List Word → Right → Bool
right_keeps k ps rs (computed e) = term_keeps k ps rs e
right_keeps k ps rs (plain_read x) = may_access k ps rs x
right_keeps k ps rs (value_of a) = action_keeps k ps rs a

abbrev pub optional_keeps : Rule → List Parameter → List Word → Option Right → Bool
optional_keeps k ps rs None = true
optional_keeps k ps rs (Some v) = right_keeps k ps rs v

abbrev pub declared_keeps : Rule → List Parameter → List Word → Declared → Bool
declared_keeps k ps rs d = may_give k ps rs d.register && optional_keeps k ps rs d.value

abbrev mutual
  pub step_keeps : Rule → List Parameter → List Word → Step → Bool
  step_keeps k ps rs empty = true
  step_keeps k ps rs (block ss) = steps_keep k ps rs ss
  step_keeps k ps rs (declare ds) = list_all (declared_keeps k ps rs) ds
  step_keeps k ps rs (assign r v) = may_give k ps rs r && right_keeps k ps rs v
  step_keeps k ps rs (plain_write x e) = may_access k ps rs x && term_keeps k ps rs e
  step_keeps k ps rs (perform a) = action_keeps k ps rs a
  step_keeps k ps rs (if_only c a) = term_keeps k ps rs c && step_keeps k ps rs a
  step_keeps k ps rs (if_else c a b) = term_keeps k ps rs c && (step_keeps k ps rs a && step_keeps k ps rs b)

  pub steps_keep : Rule → List Parameter → List Word → Steps → Bool
  steps_keep k ps rs no_steps = true
  steps_keep k ps rs (in_turn s ss) = step_keeps k ps rs s && steps_keep k ps rs ss

abbrev pub program_keeps : Rule → Program → Bool
program_keeps k p = steps_keep k p.parameters p.registers p.steps

-- a place of the condition is a register of a thread, or a location
abbrev pub place_is_there : List Program → List Word → Place → Bool
place_is_there ps xs (Reg k x) = passes (λ p. is_one_of p.registers x) (slice_get ps k)
place_is_there ps xs (Loc x) = is_one_of xs x

abbrev pub formula_is_fair : List Program → List Word → Formula → Bool
formula_is_fair ps xs truth = true
formula_is_fair ps xs falsehood = true
formula_is_fair ps xs (equals p v) = place_is_there ps xs p
formula_is_fair ps xs (negation a) = formula_is_fair ps xs a
formula_is_fair ps xs (conjunction a b) = formula_is_fair ps xs a && formula_is_fair ps xs b
formula_is_fair ps xs (disjunction a b) = formula_is_fair ps xs a && formula_is_fair ps xs b
formula_is_fair ps xs (implication a b) = formula_is_fair ps xs a && formula_is_fair ps xs b

-- what a link puts behind a proposition
abbrev pub connected_is_fair : List Program → List Word → chains.Growth → Bool
connected_is_fair ps xs chains.denies = true
connected_is_fair ps xs (chains.joins o b) = formula_is_fair ps xs b

abbrev pub places_are_there : List Program → List Word → List Place → Bool
places_are_there ps xs qs = list_all (place_is_there ps xs) qs

-- the names that entries, threads ps with locations xs, listed places and a condition use
abbrev pub names_hold : List Binding → List Program → List Word → List Place → Formula → Bool
names_hold es ps xs qs a =
    list_all (λ b. entry_is_fair ps b.place) es && list_all (program_keeps Names) ps && places_are_there ps xs qs && formula_is_fair ps xs a

abbrev pub names_are_there : List Binding → Litmus → Bool
names_are_there es t = names_hold es t.threads t.locations t.listed t.condition.formula

-- the initial writes, and the events of the threads
abbrev pub events_of : Litmus → ℕ
events_of t = length t.locations + sum_by program_events t.threads

-- The rules and the limits, for the entries es of the initial state.
pub record KeepsRules (es : List Binding) (t : Litmus) : Type 0 where
  pub threads : length t.threads ≤ 8
  pub locations : length t.locations ≤ 8
  pub names : names_are_there es t ≡ true
  pub plain : list_all (program_keeps PlainAccess) t.threads ≡ true
  pub atomic : list_all (program_keeps AtomicAccess) t.threads ≡ true
  pub values : length (values_of t) ≤ 16
  pub small : All (λ v. v ≤ 2147483647) (values_of t)
  pub events : events_of t ≤ 64

-- it has few threads and few locations
pub record IsSmall (t : Litmus) : Type 0 where
  pub threads : length t.threads ≤ 8
  pub locations : length t.locations ≤ 8

-- and its names are there, and each access is to a location of its kind
pub record IsNamed (es : List Binding) (t : Litmus) : Type 0 where
  pub small : IsSmall t
  pub names : names_are_there es t ≡ true
  pub plain : list_all (program_keeps PlainAccess) t.threads ≡ true
  pub atomic : list_all (program_keeps AtomicAccess) t.threads ≡ true

-- What a refusal says of the test: which rule or limit it breaks, and that it keeps those that are tried before.
abbrev pub Explains : List Binding → Litmus → TestFault → Type 0
Explains es t NoMemory = Unit {0}
Explains es t TooManyThreads = 8 < length t.threads
Explains es t TooManyLocations = (length t.threads ≤ 8) × (8 < length t.locations)
Explains es t UnknownName = IsSmall t × (names_are_there es t ≡ false)
Explains es t PlainOnAtomic = IsSmall t × (names_are_there es t ≡ true) × (list_all (program_keeps PlainAccess) t.threads ≡ false)
Explains es t AtomicOnPlain =
    IsSmall t × (names_are_there es t ≡ true) × (list_all (program_keeps PlainAccess) t.threads ≡ true) × (list_all (program_keeps AtomicAccess) t.threads ≡ false)
Explains es t TooManyValues = IsNamed es t × (16 < length (values_of t))
Explains es t ValueTooBig = IsNamed es t × (length (values_of t) ≤ 16) × Any (λ v. 2147483647 < v) (values_of t)
Explains es t TooManyEvents = IsNamed es t × (length (values_of t) ≤ 16) × All (λ v. v ≤ 2147483647) (values_of t) × (64 < events_of t)
Explains es t (Text f) = ⊥
Explains es t (Syntax n) = ⊥
Explains es t BadOrder = ⊥
Explains es t (Unsupported w) = ⊥
Explains es t TooDeep = ⊥

-- A name that isn't there; else a plain, else an atomic access that its location doesn't take.
abbrev pub ExplainsNames : List Binding → List Program → List Word → List Place → Formula → TestFault → Type 0
ExplainsNames es ps xs qs a UnknownName = names_hold es ps xs qs a ≡ false
ExplainsNames es ps xs qs a PlainOnAtomic = (names_hold es ps xs qs a ≡ true) × (list_all (program_keeps PlainAccess) ps ≡ false)
ExplainsNames es ps xs qs a AtomicOnPlain = (names_hold es ps xs qs a ≡ true) × (list_all (program_keeps PlainAccess) ps ≡ true) × (list_all (program_keeps AtomicAccess) ps ≡ false)
ExplainsNames es ps xs qs a e = ⊥

-- More than 8 locations, or no memory.
abbrev pub ExplainsLocations : List Word → TestFault → Type 0
ExplainsLocations xs NoMemory = Unit {0}
ExplainsLocations xs TooManyLocations = 8 < length xs
ExplainsLocations xs e = ⊥

-- More than 16 values; else one above 2,147,483,647; or no memory.
abbrev pub ExplainsValues : List ℕ → TestFault → Type 0
ExplainsValues vs NoMemory = Unit {0}
ExplainsValues vs TooManyValues = 16 < length vs
ExplainsValues vs ValueTooBig = (length vs ≤ 16) × Any (λ v. 2147483647 < v) vs
ExplainsValues vs e = ⊥
