-- How the trees are written in a key. A byte on top tells the case.
use Rattle.std.specs.Prelude.{◌≡◌, ℕ, zero, suc, List, ◌∷◌, Option, refl}
use Rattle.std.proofs.Common.{ap, arith}
use Rattle.keys.specs.Spelling.{Spelling, below, number_over, number_exact, spelled_number, spelled_byte, spelled_bytes, spelled_pair, spelled_list, spelled_option, spell_by}
use Rattle.conditions.specs.Conditions.{Condition}
use Rattle.conditions.specs.Spellings.{spelled_place, spelled_binding, spelled_condition}
use Rattle.conditions.specs.declared.place.Binding.{Binding}
use Rattle.conditions.specs.declared.place.Place.{Place}
use Rattle.events.specs.declared.event.Order.{Order}
use Rattle.events.specs.declared.event.Order.TheVariants.{NoOrder, Na, Rlx, Acq, Rel, AcqRel, Sc}
use Rattle.litmus_tree.specs.declared.expression.Operator.{Operator}
use Rattle.litmus_tree.specs.declared.expression.Operator.TheVariants.{Equal, Unequal, Both, Either}
use Rattle.litmus_tree.specs.declared.tree.Computation.{Computation}
use Rattle.litmus_tree.specs.declared.tree.Computation.TheVariants.{Addition}
use Rattle.litmus_tree.specs.declared.tree.LocationKind.{LocationKind}
use Rattle.litmus_tree.specs.declared.tree.LocationKind.TheVariants.{Atomic, Plain}
use Rattle.litmus_tree.specs.declared.tree.Parameter.{Parameter}
use Rattle.litmus_tree.specs.Tree.{Word, Term, number, held, denied, equal, unequal, both, either, Growth, denies, joins, Action, load, store, exchange, modify, fence, Right, computed, plain_read, value_of, Declared, Step, empty, block, declare, assign, plain_write, perform, if_only, if_else, Steps, no_steps, in_turn, Program, Litmus}

abbrev pub kind_byte : LocationKind → ℕ
kind_byte Atomic = 0
kind_byte Plain = 1

abbrev pub kind_of : ℕ → LocationKind
kind_of zero = Atomic
kind_of (suc n) = Plain

pub kind_back : (k : LocationKind) → kind_of (kind_byte k) ≡ k
kind_back Atomic = refl
kind_back Plain = refl

abbrev pub spelled_kind : Spelling LocationKind
spelled_kind = spell_by ℕ spelled_byte kind_byte kind_of kind_back

abbrev pub spelled_parameter : Spelling Parameter
spelled_parameter = spell_by (Word × LocationKind) (spelled_pair spelled_bytes spelled_kind) (λ p. (p.name, p.kind)) (λ q. record { name = q.0; kind = q.1 }) (λ _. refl)

abbrev pub term_over : Term → List ℕ → List ℕ
term_over (number n) s = 0 ∷ number_over n s
term_over (held r) s = 1 ∷ spelled_bytes.over r s
term_over (denied a) s = 2 ∷ term_over a s
term_over (equal a b) s = 3 ∷ term_over b (term_over a s)
term_over (unequal a b) s = 4 ∷ term_over b (term_over a s)
term_over (both a b) s = 5 ∷ term_over b (term_over a s)
term_over (either a b) s = 6 ∷ term_over b (term_over a s)

pub term_exact : (a b : Term) (s t : List ℕ) → term_over a s ≡ term_over b t → (a ≡ b) × (s ≡ t)
term_exact (number n) (number m) s t p = let h = number_exact n m s t (ap below p) in (ap number h.0, h.1)
term_exact (held q) (held r) s t p = let h = spelled_bytes.exact q r s t (ap below p) in (ap held h.0, h.1)
term_exact (denied a) (denied b) s t p = let h = term_exact a b s t (ap below p) in (ap denied h.0, h.1)
term_exact (equal a b) (equal c d) s t p =
    let h = term_exact b d (term_over a s) (term_over c t) (ap below p) in
    let g = term_exact a c s t h.1 in
    (λ i. equal (g.0 i) (h.0 i), g.1)
term_exact (unequal a b) (unequal c d) s t p =
    let h = term_exact b d (term_over a s) (term_over c t) (ap below p) in
    let g = term_exact a c s t h.1 in
    (λ i. unequal (g.0 i) (h.0 i), g.1)
term_exact (both a b) (both c d) s t p =
    let h = term_exact b d (term_over a s) (term_over c t) (ap below p) in
    let g = term_exact a c s t h.1 in
    (λ i. both (g.0 i) (h.0 i), g.1)
term_exact (either a b) (either c d) s t p =
    let h = term_exact b d (term_over a s) (term_over c t) (ap below p) in
    let g = term_exact a c s t h.1 in
    (λ i. either (g.0 i) (h.0 i), g.1)
term_exact a b s t p = absurd (cc)

abbrev pub spelled_term : Spelling Term
spelled_term = record { over = term_over; exact = term_exact }

abbrev pub operator_byte : Operator → ℕ
operator_byte Equal = 3
operator_byte Unequal = 4
operator_byte Both = 5
operator_byte Either = 6

-- what a link writes over the term before it
abbrev pub growth_over : List ℕ → Growth → List ℕ
growth_over s denies = 2 ∷ s
growth_over s (joins o b) = operator_byte o ∷ term_over b s

abbrev pub order_byte : Order → ℕ
order_byte NoOrder = 0
order_byte Na = 1
order_byte Rlx = 2
order_byte Acq = 3
order_byte Rel = 4
order_byte AcqRel = 5
order_byte Sc = 6

abbrev pub order_of : ℕ → Order
order_of zero = NoOrder
order_of (suc zero) = Na
order_of (suc (suc zero)) = Rlx
order_of (suc (suc (suc zero))) = Acq
order_of (suc (suc (suc (suc zero)))) = Rel
order_of (suc (suc (suc (suc (suc zero))))) = AcqRel
order_of (suc (suc (suc (suc (suc (suc n)))))) = Sc

pub order_back : (o : Order) → order_of (order_byte o) ≡ o
order_back NoOrder = refl
order_back Na = refl
order_back Rlx = refl
order_back Acq = refl
order_back Rel = refl
order_back AcqRel = refl
order_back Sc = refl

abbrev pub spelled_order : Spelling Order
spelled_order = spell_by ℕ spelled_byte order_byte order_of order_back

abbrev pub computation_byte : Computation → ℕ
computation_byte Addition = 0

abbrev pub computation_of : ℕ → Computation
computation_of n = Addition

pub computation_back : (c : Computation) → computation_of (computation_byte c) ≡ c
computation_back Addition = refl

abbrev pub spelled_computation : Spelling Computation
spelled_computation = spell_by ℕ spelled_byte computation_byte computation_of computation_back

-- of a write: its location, what it writes and its order
abbrev pub spelled_write : Spelling (Word × Term × Order)
spelled_write = spell_by ((Word × Term) × Order) (spelled_pair (spelled_pair spelled_bytes spelled_term) spelled_order) (λ p. ((p.0, p.1), p.2)) (λ q. (q.0.0, q.0.1, q.1)) (λ _. refl)

abbrev pub action_over : Action → List ℕ → List ℕ
action_over (load x o) s = 0 ∷ spelled_order.over o (spelled_bytes.over x s)
action_over (store x e o) s = 1 ∷ spelled_order.over o (term_over e (spelled_bytes.over x s))
action_over (exchange x e o) s = 2 ∷ spelled_order.over o (term_over e (spelled_bytes.over x s))
action_over (modify x f c o) s = 3 ∷ spelled_order.over o (number_over c (spelled_computation.over f (spelled_bytes.over x s)))
action_over (fence o) s = 4 ∷ spelled_order.over o s

pub action_exact : (a b : Action) (s t : List ℕ) → action_over a s ≡ action_over b t → (a ≡ b) × (s ≡ t)
action_exact (load x o) (load y p) s t e =
    let h = (spelled_pair spelled_bytes spelled_order).exact (x, o) (y, p) s t (ap below e) in
    (ap (λ q. load q.0 q.1) h.0, h.1)
action_exact (store x a o) (store y b p) s t e =
    let h = spelled_write.exact (x, a, o) (y, b, p) s t (ap below e) in
    (ap (λ q. store q.0 q.1 q.2) h.0, h.1)
action_exact (exchange x a o) (exchange y b p) s t e =
    let h = spelled_write.exact (x, a, o) (y, b, p) s t (ap below e) in
    (ap (λ q. exchange q.0 q.1 q.2) h.0, h.1)
action_exact (modify x f c o) (modify y g d p) s t e =
    let h = (spelled_pair (spelled_pair (spelled_pair spelled_bytes spelled_computation) spelled_number) spelled_order).exact (((x, f), c), o) (((y, g), d), p) s t (ap below e) in
    (ap (λ q. modify q.0.0.0 q.0.0.1 q.0.1 q.1) h.0, h.1)
action_exact (fence o) (fence p) s t e = let h = spelled_order.exact o p s t (ap below e) in (ap fence h.0, h.1)
action_exact a b s t e = absurd (cc)

abbrev pub right_over : Right → List ℕ → List ℕ
right_over (computed e) s = 0 ∷ term_over e s
right_over (plain_read x) s = 1 ∷ spelled_bytes.over x s
right_over (value_of a) s = 2 ∷ action_over a s

pub right_exact : (a b : Right) (s t : List ℕ) → right_over a s ≡ right_over b t → (a ≡ b) × (s ≡ t)
right_exact (computed a) (computed b) s t p = let h = term_exact a b s t (ap below p) in (ap computed h.0, h.1)
right_exact (plain_read x) (plain_read y) s t p = let h = spelled_bytes.exact x y s t (ap below p) in (ap plain_read h.0, h.1)
right_exact (value_of a) (value_of b) s t p = let h = action_exact a b s t (ap below p) in (ap value_of h.0, h.1)
right_exact a b s t p = absurd (cc)

abbrev pub spelled_right : Spelling Right
spelled_right = record { over = right_over; exact = right_exact }

abbrev pub spelled_declared : Spelling Declared
spelled_declared = spell_by (Word × Option Right) (spelled_pair spelled_bytes (spelled_option spelled_right)) (λ d. (d.register, d.value)) (λ p. record { register = p.0; value = p.1 }) (λ _. refl)

abbrev pub spelled_declarations : Spelling (List Declared)
spelled_declarations = spelled_list spelled_declared

abbrev pub count : Steps → ℕ
count no_steps = 0
count (in_turn x xs) = suc (count xs)

abbrev mutual
  pub step_over : Step → List ℕ → List ℕ
  step_over empty s = 0 ∷ s
  step_over (block xs) s = 1 ∷ number_over (count xs) (each_over xs s)
  step_over (declare ds) s = 2 ∷ spelled_declarations.over ds s
  step_over (assign r v) s = 3 ∷ right_over v (spelled_bytes.over r s)
  step_over (plain_write x e) s = 4 ∷ term_over e (spelled_bytes.over x s)
  step_over (perform a) s = 5 ∷ action_over a s
  step_over (if_only c a) s = 6 ∷ step_over a (term_over c s)
  step_over (if_else c a b) s = 7 ∷ step_over b (step_over a (term_over c s))

  pub each_over : Steps → List ℕ → List ℕ
  each_over no_steps s = s
  each_over (in_turn x xs) s = each_over xs (step_over x s)

abbrev pub steps_over : Steps → List ℕ → List ℕ
steps_over xs s = number_over (count xs) (each_over xs s)

mutual
  pub step_exact : (a b : Step) (s t : List ℕ) → step_over a s ≡ step_over b t → (a ≡ b) × (s ≡ t)
  step_exact empty empty s t p = (refl, ap below p)
  step_exact (block xs) (block ys) s t p =
      let n = number_exact (count xs) (count ys) (each_over xs s) (each_over ys t) (ap below p) in
      let h = each_exact xs ys s t n.0 n.1 in
      (ap block h.0, h.1)
  step_exact (declare ds) (declare es) s t p = let h = spelled_declarations.exact ds es s t (ap below p) in (ap declare h.0, h.1)
  step_exact (assign q v) (assign r w) s t p =
      let h = (spelled_pair spelled_bytes spelled_right).exact (q, v) (r, w) s t (ap below p) in
      (ap (λ x. assign x.0 x.1) h.0, h.1)
  step_exact (plain_write x e) (plain_write y f) s t p =
      let h = (spelled_pair spelled_bytes spelled_term).exact (x, e) (y, f) s t (ap below p) in
      (ap (λ z. plain_write z.0 z.1) h.0, h.1)
  step_exact (perform a) (perform b) s t p = let h = action_exact a b s t (ap below p) in (ap perform h.0, h.1)
  step_exact (if_only c a) (if_only d b) s t p =
      let h = step_exact a b (term_over c s) (term_over d t) (ap below p) in
      let g = term_exact c d s t h.1 in
      (λ i. if_only (g.0 i) (h.0 i), g.1)
  step_exact (if_else c a b) (if_else d e f) s t p =
      let k = step_exact b f (step_over a (term_over c s)) (step_over e (term_over d t)) (ap below p) in
      let h = step_exact a e (term_over c s) (term_over d t) k.1 in
      let g = term_exact c d s t h.1 in
      (λ i. if_else (g.0 i) (h.0 i) (k.0 i), g.1)
  step_exact a b s t p = absurd (cc)

  pub each_exact : (a b : Steps) (s t : List ℕ) → count a ≡ count b → each_over a s ≡ each_over b t → (a ≡ b) × (s ≡ t)
  each_exact no_steps no_steps s t l p = (refl, p)
  each_exact no_steps (in_turn y ys) s t l p = absurd (omega (arith, l))
  each_exact (in_turn x xs) no_steps s t l p = absurd (omega (arith, l))
  each_exact (in_turn x xs) (in_turn y ys) s t l p =
      let h = each_exact xs ys (step_over x s) (step_over y t) (omega (arith, l)) p in
      let g = step_exact x y s t h.1 in
      (λ i. in_turn (g.0 i) (h.0 i), g.1)

pub steps_exact : (a b : Steps) (s t : List ℕ) → steps_over a s ≡ steps_over b t → (a ≡ b) × (s ≡ t)
steps_exact xs ys s t p =
    let n = number_exact (count xs) (count ys) (each_over xs s) (each_over ys t) p in
    each_exact xs ys s t n.0 n.1

abbrev pub spelled_steps : Spelling Steps
spelled_steps = record { over = steps_over; exact = steps_exact }

abbrev pub spelled_words : Spelling (List Word)
spelled_words = spelled_list spelled_bytes

abbrev pub spelled_program : Spelling Program
spelled_program =
    spell_by ((List Parameter × Steps) × List Word) (spelled_pair (spelled_pair (spelled_list spelled_parameter) spelled_steps) spelled_words)
    (λ p. ((p.parameters, p.steps), p.registers)) (λ q. record { parameters = q.0.0; steps = q.0.1; registers = q.1 }) (λ _. refl)

abbrev Parts : Type 0
Parts = ((((Word × List Binding) × List Program) × Condition) × List Place) × List Word

abbrev parts_spelling : Spelling Parts
parts_spelling =
    spelled_pair (spelled_pair (spelled_pair (spelled_pair (spelled_pair spelled_bytes (spelled_list spelled_binding)) (spelled_list spelled_program)) spelled_condition) (spelled_list spelled_place)) spelled_words

abbrev pub spelled_litmus : Spelling Litmus
spelled_litmus =
    spell_by Parts parts_spelling
    (λ t. (((((t.name, t.initial), t.threads), t.condition), t.listed), t.locations))
    (λ p. record { name = p.0.0.0.0.0; initial = p.0.0.0.0.1; threads = p.0.0.0.1; condition = p.0.0.1; listed = p.0.1; locations = p.1 })
    (λ _. refl)
