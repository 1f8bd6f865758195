-- A written test that keeps the rules makes a test.
use Rattle.std.proofs.Common.{◌≡◌, ℕ, suc, ◌≤◌, ◌<◌, ◌⊎◌, List, [], ◌∷◌, ◌++◌, length, refl, sym, ◌∙◌, ap, subst, inl, inr, arith, map}
use Rattle.std.specs.Prelude.{Bool, true, false, not, if◌then◌else◌, ◌||◌, ◌&&◌, Option, Some, None, All, Any, Contains, sum_by, ◌+◌}
use Rattle.std.specs.List.{flat_map, list_all}
use Rattle.std.specs.Str.{bytes_eq}
use Rattle.std.proofs.lemmas.Bool.{or_cases, and_parts, cases_Bool, false≢true}
use Rattle.std.proofs.lemmas.List.Elements.{All-cons}
use Rattle.std.proofs.lemmas.Map.Views.{Contains-from_any}
use Rattle.listings.specs.Lists.{IsIn}
use Rattle.listings.proofs.Listings.{in_left, in_right, flat_map_in}
use Rattle.conditions.specs.declared.place.Binding.{Binding}
use Rattle.litmus_c.specs.declared.rules.Rule.TheVariants.{Names, PlainAccess, AtomicAccess}
use Rattle.litmus_tree.specs.declared.tree.Parameter.{Parameter}
use Rattle.litmus_syntax.specs.Drafts.{Listing, Written, is_parameter}
use Rattle.litmus_c.specs.declared.fault.TestFault.{TestFault}
use Rattle.litmus_c.specs.declared.fault.TestFault.TheVariants.{Text, Syntax, BadOrder, UnknownName, PlainOnAtomic, AtomicOnPlain, Unsupported, TooDeep, TooManyThreads, TooManyLocations, TooManyEvents, TooManyValues, ValueTooBig, NoMemory}
use Rattle.litmus_value.specs.Limits.{program_events, IsTest, TermNames, ActionNames, RightNames, OptionalNames, StepNames, StepsNames, ProgramNames}
use Rattle.litmus_c.specs.Rules.{lasting, place_locations, parameter_names, locations_of, place_registers, step_registers, steps_registers, registers_of, program_of, programs_of, litmus_of, term_keeps, action_keeps, right_keeps, optional_keeps, declared_keeps, step_keeps, steps_keep, program_keeps, entry_is_fair, places_are_there, names_hold, formula_is_fair, KeepsRules, IsSmall, IsNamed, Explains, ExplainsNames, ExplainsLocations, ExplainsValues, events_of}
use Rattle.litmus_tree.specs.Names.{is_one_of, with_name, with_names}
use Rattle.litmus_tree.specs.Tree.{Word, Term, number, held, denied, equal, unequal, both, either, Action, load, store, exchange, modify, fence, Right, computed, plain_read, value_of, Declared, Step, empty, block, declare, assign, plain_write, perform, if_only, if_else, Steps, no_steps, in_turn, Program, Litmus}
use Rattle.litmus_value.specs.Values.{values_among, values_of}
use Rattle.litmus_c.proofs.Names.{programs_len}
use Rattle.litmus_syntax.proofs.SingleSymbols.{bytes_eq-true, bytes_eq-refl}

or_right : (a b : Bool) → b ≡ true → (a || b) ≡ true
or_right true b h = refl
or_right false b h = h

-- a name that stands in a list
stands : (xs : List Word) (x : Word) → IsIn x xs → is_one_of xs x ≡ true
stands [] x h = absurd h
stands (y ∷ ys) x h = elim h [
  | inl e ↦ (let P : Word → Type 0 = λ z. (bytes_eq x z || is_one_of ys x) ≡ true in subst P e (rw (bytes_eq-refl x) refl))
  | inr m ↦ or_right (bytes_eq x y) (is_one_of ys x) (stands ys x m)
]

found_in : (xs : List Word) (x : Word) → is_one_of xs x ≡ true → IsIn x xs
found_in [] x h = absurd (false≢true h)
found_in (y ∷ ys) x h = elim (or_cases (bytes_eq x y) (is_one_of ys x) h) [
  | inl e ↦ inl (bytes_eq-true x y e)
  | inr m ↦ inr (found_in ys x m)
]

contains : (xs : List Word) (x : Word) → IsIn x xs → Contains xs x
contains xs x h = Contains-from_any bytes_eq-true x xs (stands xs x h)

-- Noting a name keeps those that are there, and adds it.

kept : (xs : List Word) (y x : Word) → IsIn x xs ⊎ (x ≡ y) → IsIn x (with_name xs y)
kept xs y x h =
    let P : Bool → Type 0 = λ b. IsIn x (if b then xs else xs ++ y ∷ []) in
    elim (cases_Bool (is_one_of xs y)) [
      | inl t ↦ subst P (sym t) (elim h [ inl a ↦ a | inr e ↦ (let Q : Word → Type 0 = λ z. IsIn z xs in subst Q (sym e) (found_in xs y t)) ])
      | inr t ↦ subst P (sym t) (elim h [ inl a ↦ in_left xs (y ∷ []) x a | inr e ↦ in_right xs (y ∷ []) x (inl e) ])
    ]

pub noted : (xs ys : List Word) (x : Word) → IsIn x xs ⊎ IsIn x ys → IsIn x (with_names xs ys)
noted xs [] x h = elim h [ inl a ↦ a | inr n ↦ absurd n ]
noted xs (y ∷ ys) x h = noted (with_name xs y) ys x (elim h [
  | inl a ↦ inl (kept xs y x (inl a))
  | inr b ↦ elim b [ inl e ↦ inl (kept xs y x (inr e)) | inr m ↦ inr m ]
])

parameter_in : (ps : List Parameter) (x : Word) → is_parameter ps x ≡ true → IsIn x (map (λ p. p.name) ps)
parameter_in [] x h = absurd (false≢true h)
parameter_in (p ∷ ps) x h = elim (or_cases (bytes_eq p.name x) (is_parameter ps x) h) [
  | inl e ↦ inl (sym (bytes_eq-true p.name x e))
  | inr m ↦ inr (parameter_in ps x m)
]

-- The names of statements, where parameters are among xs and registers among rs.

abbrev Within : List Parameter → List Word → Type 0
Within ps xs = (x : Word) → is_parameter ps x ≡ true → Contains xs x

term-names : (ps : List Parameter) (rs : List Word) (e : Term) → term_keeps Names ps rs e ≡ true → TermNames rs e
term-names ps rs (number n) h = tt
term-names ps rs (held r) h = contains rs r (found_in rs r h)
term-names ps rs (denied a) h = term-names ps rs a h
term-names ps rs (equal a b) h = let p = and_parts (term_keeps Names ps rs a) (term_keeps Names ps rs b) h in (term-names ps rs a p.0, term-names ps rs b p.1)
term-names ps rs (unequal a b) h = let p = and_parts (term_keeps Names ps rs a) (term_keeps Names ps rs b) h in (term-names ps rs a p.0, term-names ps rs b p.1)
term-names ps rs (both a b) h = let p = and_parts (term_keeps Names ps rs a) (term_keeps Names ps rs b) h in (term-names ps rs a p.0, term-names ps rs b p.1)
term-names ps rs (either a b) h = let p = and_parts (term_keeps Names ps rs a) (term_keeps Names ps rs b) h in (term-names ps rs a p.0, term-names ps rs b p.1)

action-names : (ps : List Parameter) (xs rs : List Word) (a : Action) → Within ps xs → action_keeps Names ps rs a ≡ true → ActionNames xs rs a
action-names ps xs rs (load x o) w h = w x h
action-names ps xs rs (store x e o) w h = let p = and_parts (is_parameter ps x) (term_keeps Names ps rs e) h in (w x p.0, term-names ps rs e p.1)
action-names ps xs rs (exchange x e o) w h = let p = and_parts (is_parameter ps x) (term_keeps Names ps rs e) h in (w x p.0, term-names ps rs e p.1)
action-names ps xs rs (modify x f c o) w h = w x h
action-names ps xs rs (fence o) w h = tt

right-names : (ps : List Parameter) (xs rs : List Word) (v : Right) → Within ps xs → right_keeps Names ps rs v ≡ true → RightNames xs rs v
right-names ps xs rs (computed e) w h = term-names ps rs e h
right-names ps xs rs (plain_read x) w h = w x h
right-names ps xs rs (value_of a) w h = action-names ps xs rs a w h

optional-names : (ps : List Parameter) (xs rs : List Word) (v : Option Right) → Within ps xs → optional_keeps Names ps rs v ≡ true → OptionalNames xs rs v
optional-names ps xs rs None w h = tt
optional-names ps xs rs (Some v) w h = right-names ps xs rs v w h

declared-names : (ps : List Parameter) (xs rs : List Word) (ds : List Declared) → Within ps xs → ((r : Word) → IsIn r (map (λ d. d.register) ds) → Contains rs r) →
    list_all (declared_keeps Names ps rs) ds ≡ true → All (λ d. Contains rs d.register × OptionalNames xs rs d.value) ds
declared-names ps xs rs [] w regs h = λ k d l. absurd (omega arith)
declared-names ps xs rs (d ∷ ds) w regs h =
    let p = and_parts (declared_keeps Names ps rs d) (list_all (declared_keeps Names ps rs) ds) h in
    let q = and_parts (not (is_parameter ps d.register)) (optional_keeps Names ps rs d.value) p.0 in
    All-cons (λ d. Contains rs d.register × OptionalNames xs rs d.value) d ds (regs d.register (inl refl), optional-names ps xs rs d.value w q.1) (declared-names ps xs rs ds w (λ r m. regs r (inr m)) p.1)

-- each of these registers is among rs
abbrev Given : List Word → List Word → Type 0
Given rs ns = (r : Word) → IsIn r ns → Contains rs r

given-left : (rs ms ns : List Word) → Given rs (ms ++ ns) → Given rs ms
given-left rs ms ns g r m = g r (in_left ms ns r m)

given-right : (rs ms ns : List Word) → Given rs (ms ++ ns) → Given rs ns
given-right rs ms ns g r m = g r (in_right ms ns r m)

mutual
  step-names : (ps : List Parameter) (xs rs : List Word) (s : Step) → Within ps xs → Given rs (step_registers s) → step_keeps Names ps rs s ≡ true → StepNames xs rs s
  step-names ps xs rs empty w g h = tt
  step-names ps xs rs (block ss) w g h = steps-names ps xs rs ss w g h
  step-names ps xs rs (declare ds) w g h = declared-names ps xs rs ds w g h
  step-names ps xs rs (assign r v) w g h =
      let p = and_parts (not (is_parameter ps r)) (right_keeps Names ps rs v) h in
      (g r (inl refl), right-names ps xs rs v w p.1)
  step-names ps xs rs (plain_write x e) w g h = let p = and_parts (is_parameter ps x) (term_keeps Names ps rs e) h in (w x p.0, term-names ps rs e p.1)
  step-names ps xs rs (perform a) w g h = action-names ps xs rs a w h
  step-names ps xs rs (if_only c a) w g h =
      let p = and_parts (term_keeps Names ps rs c) (step_keeps Names ps rs a) h in
      (term-names ps rs c p.0, step-names ps xs rs a w g p.1)
  step-names ps xs rs (if_else c a b) w g h =
      let p = and_parts (term_keeps Names ps rs c) (step_keeps Names ps rs a && step_keeps Names ps rs b) h in
      let q = and_parts (step_keeps Names ps rs a) (step_keeps Names ps rs b) p.1 in
      (term-names ps rs c p.0, step-names ps xs rs a w (given-left rs (step_registers a) (step_registers b) g) q.0, step-names ps xs rs b w (given-right rs (step_registers a) (step_registers b) g) q.1)

  steps-names : (ps : List Parameter) (xs rs : List Word) (ss : Steps) → Within ps xs → Given rs (steps_registers ss) → steps_keep Names ps rs ss ≡ true → StepsNames xs rs ss
  steps-names ps xs rs no_steps w g h = tt
  steps-names ps xs rs (in_turn s ss) w g h =
      let p = and_parts (step_keeps Names ps rs s) (steps_keep Names ps rs ss) h in
      (step-names ps xs rs s w (given-left rs (step_registers s) (steps_registers ss) g) p.0, steps-names ps xs rs ss w (given-right rs (step_registers s) (steps_registers ss) g) p.1)

programs-names : (k : ℕ) (es : List Binding) (ts : List Listing) (xs : List Word) → ((t : Listing) → IsIn t ts → Within t.parameters xs) →
    list_all (program_keeps Names) (programs_of k es ts) ≡ true → All (ProgramNames xs) (programs_of k es ts)
programs-names k es [] xs w h = λ j d l. absurd (omega arith)
programs-names k es (t ∷ ts) xs w h =
    let p = and_parts (program_keeps Names (program_of k es t)) (list_all (program_keeps Names) (programs_of (suc k) es ts)) h in
    let regs : (r : Word) → IsIn r (steps_registers t.steps) → Contains (registers_of k es t.steps) r =
    λ r m. contains (registers_of k es t.steps) r (noted (with_names [] (flat_map (λ b. place_registers k b.place) es)) (steps_registers t.steps) r (inr m)) in
    All-cons (ProgramNames xs) (program_of k es t) (programs_of (suc k) es ts) (steps-names t.parameters xs (registers_of k es t.steps) t.steps (w t (inl refl)) regs p.0)
    (programs-names (suc k) es ts xs (λ u m. w u (inr m)) p.1)

pub is_test : (w : Written) → KeepsRules w.entries (litmus_of w) → IsTest (litmus_of w)
is_test w h =
    let t = litmus_of w in
    let entries = list_all (λ b. entry_is_fair t.threads b.place) w.entries in
    let programs = list_all (program_keeps Names) t.threads in
    let places = places_are_there t.threads t.locations t.listed in
    let a = and_parts (entries && programs && places) (formula_is_fair t.threads t.locations t.condition.formula) h.names in
    let b = and_parts (entries && programs) places a.0 in
    let c = and_parts entries programs b.0 in
    record {
      threads = h.threads;
      locations = h.locations;
      values = h.values;
      small = h.small;
      events = h.events;
      names = programs-names 0 w.entries w.threads (locations_of w)
          (λ l m x e. contains (locations_of w) x (noted (with_names [] (flat_map (λ b. place_locations b.place) w.entries)) (flat_map parameter_names w.threads) x
          (inr (flat_map_in parameter_names w.threads l x m (parameter_in l.parameters x e)))))
          c.1;
    }

-- The parts that were made are those of the test.
pub parts : (w : Written) (initial : List Binding) (threads : List Program) (locations : List Word) →
    initial ≡ lasting w.entries → threads ≡ programs_of 0 w.entries w.threads → locations ≡ locations_of w →
    ◌≡◌ {A = Litmus} (record { name = w.name; initial = initial; threads = threads; condition = w.condition; listed = w.listed; locations = locations }) (litmus_of w)
parts w initial threads locations e f g =
    let a : List Binding → Litmus = λ i. record { name = w.name; initial = i; threads = threads; condition = w.condition; listed = w.listed; locations = locations } in
    let b : List Program → Litmus = λ p. record { name = w.name; initial = lasting w.entries; threads = p; condition = w.condition; listed = w.listed; locations = locations } in
    let c : List Word → Litmus = λ l. record { name = w.name; initial = lasting w.entries; threads = programs_of 0 w.entries w.threads; condition = w.condition; listed = w.listed; locations = l } in
    ap a e ∙ ap b f ∙ ap c g

pub kept_rules : (w : Written) (initial : List Binding) (threads : List Program) (locations : List Word) →
    initial ≡ lasting w.entries → threads ≡ programs_of 0 w.entries w.threads → locations ≡ locations_of w →
    length w.threads ≤ 8 → length locations ≤ 8 →
    names_hold w.entries threads locations w.listed w.condition.formula ≡ true → list_all (program_keeps PlainAccess) threads ≡ true → list_all (program_keeps AtomicAccess) threads ≡ true →
    length (values_among initial threads) ≤ 16 → All (λ v. v ≤ 2147483647) (values_among initial threads) → length locations + sum_by program_events threads ≤ 64 → KeepsRules w.entries (litmus_of w)
kept_rules w initial threads locations e f g few here names plain atomic values small events =
    subst (λ (t : Litmus). KeepsRules w.entries t) (parts w initial threads locations e f g) (record {
      threads = omega (arith, ap length f, programs_len 0 w.entries w.threads);
      locations = here;
      names = names;
      plain = plain;
      atomic = atomic;
      values = values;
      small = small;
      events = events;
    })

pub made_test : (w : Written) (initial : List Binding) (threads : List Program) (locations : List Word) →
    initial ≡ lasting w.entries → threads ≡ programs_of 0 w.entries w.threads → locations ≡ locations_of w →
    KeepsRules w.entries (litmus_of w) →
    IsTest (record { name = w.name; initial = initial; threads = threads; condition = w.condition; listed = w.listed; locations = locations })
made_test w initial threads locations e f g h = subst (λ (t : Litmus). IsTest t) (sym (parts w initial threads locations e f g)) (is_test w h)

small_of : (w : Written) (locations : List Word) → locations ≡ locations_of w → length w.threads ≤ 8 → length locations ≤ 8 → IsSmall (litmus_of w)
small_of w locations g few here = record {
  threads = omega (arith, few, programs_len 0 w.entries w.threads);
  locations = subst (λ (xs : List Word). length xs ≤ 8) g here;
}

explained : (w : Written) (e : TestFault) → IsSmall (litmus_of w) → ExplainsNames w.entries (programs_of 0 w.entries w.threads) (locations_of w) w.listed w.condition.formula e → Explains w.entries (litmus_of w) e
explained w UnknownName s h = (s, h)
explained w PlainOnAtomic s h = (s, h.0, h.1)
explained w AtomicOnPlain s h = (s, h.0, h.1, h.2)
explained w (Text f) s h = absurd h
explained w (Syntax n) s h = absurd h
explained w BadOrder s h = absurd h
explained w (Unsupported x) s h = absurd h
explained w TooDeep s h = absurd h
explained w TooManyThreads s h = absurd h
explained w TooManyLocations s h = absurd h
explained w TooManyEvents s h = absurd h
explained w TooManyValues s h = absurd h
explained w ValueTooBig s h = absurd h
explained w NoMemory s h = absurd h

-- what explains a refusal of names explains it of the test
pub names_cause : (w : Written) (threads : List Program) (locations : List Word) (e : TestFault) →
    threads ≡ programs_of 0 w.entries w.threads → locations ≡ locations_of w → length w.threads ≤ 8 → length locations ≤ 8 →
    ExplainsNames w.entries threads locations w.listed w.condition.formula e → Explains w.entries (litmus_of w) e
names_cause w threads locations e f g few here h =
    let P : List Program → List Word → TestFault → Type 0 = λ ps xs x. ExplainsNames w.entries ps xs w.listed w.condition.formula x in
    explained w e (small_of w locations g few here) (subst (λ xs. P (programs_of 0 w.entries w.threads) xs e) g (subst (λ ps. P ps locations e) f h))

-- what explains a refusal of locations explains it of the test
pub locations_cause : (w : Written) (e : TestFault) → length w.threads ≤ 8 → ExplainsLocations (locations_of w) e → Explains w.entries (litmus_of w) e
locations_cause w NoMemory few h = tt
locations_cause w TooManyLocations few h = (omega (arith, few, programs_len 0 w.entries w.threads), h)
locations_cause w UnknownName few h = absurd h
locations_cause w PlainOnAtomic few h = absurd h
locations_cause w AtomicOnPlain few h = absurd h
locations_cause w (Text f) few h = absurd h
locations_cause w (Syntax n) few h = absurd h
locations_cause w BadOrder few h = absurd h
locations_cause w (Unsupported x) few h = absurd h
locations_cause w TooDeep few h = absurd h
locations_cause w TooManyThreads few h = absurd h
locations_cause w TooManyEvents few h = absurd h
locations_cause w TooManyValues few h = absurd h
locations_cause w ValueTooBig few h = absurd h

-- names that are there, of the test from its parts
pub named_of : (w : Written) (initial : List Binding) (threads : List Program) (locations : List Word) →
    initial ≡ lasting w.entries → threads ≡ programs_of 0 w.entries w.threads → locations ≡ locations_of w → length w.threads ≤ 8 → length locations ≤ 8 →
    names_hold w.entries threads locations w.listed w.condition.formula ≡ true → list_all (program_keeps PlainAccess) threads ≡ true → list_all (program_keeps AtomicAccess) threads ≡ true →
    IsNamed w.entries (litmus_of w)
named_of w initial threads locations e f g few here names plain atomic =
    subst (λ (t : Litmus). IsNamed w.entries t) (parts w initial threads locations e f g) (record {
      small = record { threads = omega (arith, few, ap length f, programs_len 0 w.entries w.threads); locations = here };
      names = names;
      plain = plain;
      atomic = atomic;
    })

-- what explains a refusal of values explains it of the test
pub values_cause : (w : Written) (initial : List Binding) (threads : List Program) (locations : List Word) (e : TestFault) →
    initial ≡ lasting w.entries → threads ≡ programs_of 0 w.entries w.threads → locations ≡ locations_of w → IsNamed w.entries (litmus_of w) →
    ExplainsValues (values_among initial threads) e → Explains w.entries (litmus_of w) e
values_cause w initial threads locations NoMemory e f g named h = tt
values_cause w initial threads locations TooManyValues e f g named h =
    (named, subst (λ (t : Litmus). 16 < length (values_of t)) (parts w initial threads locations e f g) h)
values_cause w initial threads locations ValueTooBig e f g named h =
    let is = parts w initial threads locations e f g in
    (named, subst (λ (t : Litmus). length (values_of t) ≤ 16) is h.0, subst (λ (t : Litmus). Any (λ v. 2147483647 < v) (values_of t)) is h.1)
values_cause w initial threads locations TooManyLocations e f g named h = absurd h
values_cause w initial threads locations UnknownName e f g named h = absurd h
values_cause w initial threads locations PlainOnAtomic e f g named h = absurd h
values_cause w initial threads locations AtomicOnPlain e f g named h = absurd h
values_cause w initial threads locations (Text x) e f g named h = absurd h
values_cause w initial threads locations (Syntax n) e f g named h = absurd h
values_cause w initial threads locations BadOrder e f g named h = absurd h
values_cause w initial threads locations (Unsupported x) e f g named h = absurd h
values_cause w initial threads locations TooDeep e f g named h = absurd h
values_cause w initial threads locations TooManyThreads e f g named h = absurd h
values_cause w initial threads locations TooManyEvents e f g named h = absurd h

-- too many events, of the test from its parts
pub events_cause : (w : Written) (initial : List Binding) (threads : List Program) (locations : List Word) →
    initial ≡ lasting w.entries → threads ≡ programs_of 0 w.entries w.threads → locations ≡ locations_of w → IsNamed w.entries (litmus_of w) →
    length (values_among initial threads) ≤ 16 → All (λ v. v ≤ 2147483647) (values_among initial threads) → 64 < length locations + sum_by program_events threads → Explains w.entries (litmus_of w) TooManyEvents
events_cause w initial threads locations e f g named few small many =
    let is = parts w initial threads locations e f g in
    (named, subst (λ (t : Litmus). length (values_of t) ≤ 16) is few, subst (λ (t : Litmus). All (λ v. v ≤ 2147483647) (values_of t)) is small, subst (λ (t : Litmus). 64 < events_of t) is many)
