-- How places, bindings and conditions are written in a key. A byte on top tells the case.
use Rattle.std.specs.Prelude.{◌≡◌, ℕ, zero, suc, List, ◌∷◌, refl}
use Rattle.std.proofs.Common.{ap}
use Rattle.keys.specs.Spelling.{Spelling, below, number_over, number_exact, spelled_number, spelled_byte, spelled_bytes, spelled_pair, spell_by}
use Rattle.conditions.specs.Conditions.{Formula, truth, falsehood, equals, negation, conjunction, disjunction, implication, Condition, Growth, denies, joins}
use Rattle.conditions.specs.declared.condition.Kind.{Kind}
use Rattle.conditions.specs.declared.condition.Kind.TheVariants.{Exists, NotExists, Forall}
use Rattle.conditions.specs.declared.place.Binding.{Binding}
use Rattle.conditions.specs.declared.place.Place.{Place}
use Rattle.conditions.specs.declared.place.Place.TheVariants.{Reg, Loc}
use Rattle.conditions.specs.declared.prop.Connective.{Connective}
use Rattle.conditions.specs.declared.prop.Connective.TheVariants.{And, Or, Implies}

abbrev pub place_over : Place → List ℕ → List ℕ
place_over (Reg thread name) s = 0 ∷ spelled_bytes.over name (number_over thread s)
place_over (Loc name) s = 1 ∷ spelled_bytes.over name s

pub place_exact : (a b : Place) (s t : List ℕ) → place_over a s ≡ place_over b t → (a ≡ b) × (s ≡ t)
place_exact (Reg k x) (Reg j y) s t p =
    let h = spelled_bytes.exact x y (number_over k s) (number_over j t) (ap below p) in
    let g = number_exact k j s t h.1 in
    (λ i. Reg (g.0 i) (h.0 i), g.1)
place_exact (Loc x) (Loc y) s t p = let h = spelled_bytes.exact x y s t (ap below p) in (ap Loc h.0, h.1)
place_exact a b s t p = absurd (cc)

abbrev pub spelled_place : Spelling Place
spelled_place = record { over = place_over; exact = place_exact }

abbrev pub spelled_binding : Spelling Binding
spelled_binding = spell_by (Place × ℕ) (spelled_pair spelled_place spelled_number) (λ b. (b.place, b.value)) (λ p. record { place = p.0; value = p.1 }) (λ _. refl)

abbrev pub formula_over : Formula → List ℕ → List ℕ
formula_over truth s = 0 ∷ s
formula_over falsehood s = 1 ∷ s
formula_over (equals place value) s = 2 ∷ number_over value (place_over place s)
formula_over (negation a) s = 3 ∷ formula_over a s
formula_over (conjunction a b) s = 4 ∷ formula_over b (formula_over a s)
formula_over (disjunction a b) s = 5 ∷ formula_over b (formula_over a s)
formula_over (implication a b) s = 6 ∷ formula_over b (formula_over a s)

pub formula_exact : (a b : Formula) (s t : List ℕ) → formula_over a s ≡ formula_over b t → (a ≡ b) × (s ≡ t)
formula_exact truth truth s t p = (refl, ap below p)
formula_exact falsehood falsehood s t p = (refl, ap below p)
formula_exact (equals x v) (equals y w) s t p =
    let h = number_exact v w (place_over x s) (place_over y t) (ap below p) in
    let g = place_exact x y s t h.1 in
    (λ i. equals (g.0 i) (h.0 i), g.1)
formula_exact (negation a) (negation b) s t p = let h = formula_exact a b s t (ap below p) in (ap negation h.0, h.1)
formula_exact (conjunction a b) (conjunction c d) s t p =
    let h = formula_exact b d (formula_over a s) (formula_over c t) (ap below p) in
    let g = formula_exact a c s t h.1 in
    (λ i. conjunction (g.0 i) (h.0 i), g.1)
formula_exact (disjunction a b) (disjunction c d) s t p =
    let h = formula_exact b d (formula_over a s) (formula_over c t) (ap below p) in
    let g = formula_exact a c s t h.1 in
    (λ i. disjunction (g.0 i) (h.0 i), g.1)
formula_exact (implication a b) (implication c d) s t p =
    let h = formula_exact b d (formula_over a s) (formula_over c t) (ap below p) in
    let g = formula_exact a c s t h.1 in
    (λ i. implication (g.0 i) (h.0 i), g.1)
formula_exact a b s t p = absurd (cc)

abbrev pub spelled_formula : Spelling Formula
spelled_formula = record { over = formula_over; exact = formula_exact }

abbrev pub connective_byte : Connective → ℕ
connective_byte And = 4
connective_byte Or = 5
connective_byte Implies = 6

-- what a link writes over the formula before it
abbrev pub growth_over : List ℕ → Growth → List ℕ
growth_over s denies = 3 ∷ s
growth_over s (joins o b) = connective_byte o ∷ formula_over b s

abbrev pub kind_byte : Kind → ℕ
kind_byte Exists = 0
kind_byte NotExists = 1
kind_byte Forall = 2

abbrev pub kind_of : ℕ → Kind
kind_of zero = Exists
kind_of (suc zero) = NotExists
kind_of (suc (suc n)) = Forall

pub kind_back : (k : Kind) → kind_of (kind_byte k) ≡ k
kind_back Exists = refl
kind_back NotExists = refl
kind_back Forall = refl

abbrev pub spelled_kind : Spelling Kind
spelled_kind = spell_by ℕ spelled_byte kind_byte kind_of kind_back

-- the proposition, and what is asked on top
abbrev pub spelled_condition : Spelling Condition
spelled_condition = spell_by (Formula × Kind) (spelled_pair spelled_formula spelled_kind) (λ c. (c.formula, c.kind)) (λ p. record { kind = p.1; formula = p.0 }) (λ _. refl)
