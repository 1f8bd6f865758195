-- The values of a state's places, and what they say of a proposition.
use Rattle.std.proofs.Common.{◌≡◌, ℕ, ◌⊎◌, inl, inr, ◌==◌, not, List, [], ◌∷◌, map, Bool, true, false, sym, refl, ap, subst}
use Rattle.std.specs.Bool.{Decides}
use Rattle.listings.specs.Lists.{IsIn, NoRepeats}
use Rattle.listings.proofs.Listings.{map_in}
use Rattle.conditions.specs.Conditions.{Formula, truth, falsehood, equals, negation, conjunction, disjunction, implication, Condition}
use Rattle.conditions.specs.Exact.{place_exact}
use Rattle.conditions.specs.declared.place.Binding.{Binding}
use Rattle.conditions.specs.States.{bindings, value_at, holds_in, Mentions, AreObserved}
use Rattle.conditions.specs.Equality.{same_place}
use Rattle.conditions.specs.declared.place.Place.{Place}

no : {P : Type 0} (r : Bool) → Decides r P → ¬ P → r ≡ false
no true d n = absurd (n (d.0 refl))
no false d n = refl

known : {P : Type 0} (r : Bool) → Decides r P → P ⊎ (¬ P)
known true d = inl (d.0 refl)
known false d = inr (λ p. let h = d.1 p in cc)

differs : (a b : Place) → ¬ (a ≡ b) → same_place a b ≡ false
differs a b n = no (same_place a b) (place_exact a b) n

same_or_not : (a b : Place) → (a ≡ b) ⊎ (¬ (a ≡ b))
same_or_not a b = known (same_place a b) (place_exact a b)

-- a bound place has its value
pub bound_value : (state : List Binding) (b : Binding) → NoRepeats (map (λ c. c.place) state) → IsIn b state → value_at state b.place ≡ b.value
bound_value [] b o h = absurd h
bound_value (c ∷ state) b o h = elim h [
  | inl e ↦ rw (← e, (place_exact b.place b.place).1 refl) refl
  | inr m ↦
      let other : same_place c.place b.place ≡ false = differs c.place b.place (λ e. o.0 (let P : Place → Type 0 = λ p. IsIn p (map (λ d. d.place) state) in subst P (sym e) (map_in (λ d. d.place) state b m))) in
      rw other (bound_value state b o.1 m)
]

-- any other place has 0
pub unbound_value : (state : List Binding) (p : Place) → ¬ IsIn p (map (λ c. c.place) state) → value_at state p ≡ 0
unbound_value [] p n = refl
unbound_value (c ∷ state) p n = rw (differs c.place p (λ e. n (inl (sym e)))) (unbound_value state p (λ m. n (inr m)))

-- places that are listed with their values have them
pub listed_value : (places : List Place) (value : Place → ℕ) (p : Place) → IsIn p places → value_at (bindings places (map value places)) p ≡ value p
listed_value [] value p h = absurd h
listed_value (q ∷ places) value p h = elim (same_or_not q p) [
  | inl e ↦ rw ((place_exact q p).1 e) (ap value e)
  | inr n ↦ rw (differs q p n) (listed_value places value p (elim h [ inl e ↦ absurd (n (sym e)) | inr m ↦ m ]))
]

-- states with the same values at the places of a proposition agree on it
pub same_answer : (a : Formula) (s t : List Binding) → ((p : Place) → Mentions a p → value_at s p ≡ value_at t p) → holds_in s a ≡ holds_in t a
same_answer truth s t same = refl
same_answer falsehood s t same = refl
same_answer (equals place value) s t same = ap (λ v. v == value) (same place refl)
same_answer (negation a) s t same = ap (λ b. not b) (same_answer a s t same)
same_answer (conjunction a b) s t same = rw (same_answer a s t (λ p m. same p (inl m)), same_answer b s t (λ p m. same p (inr m))) refl
same_answer (disjunction a b) s t same = rw (same_answer a s t (λ p m. same p (inl m)), same_answer b s t (λ p m. same p (inr m))) refl
same_answer (implication a b) s t same = rw (same_answer a s t (λ p m. same p (inl m)), same_answer b s t (λ p m. same p (inr m))) refl

-- what is observed of a state decides the proposition
pub observed_answer : (condition : Condition) (listed places : List Place) (state : List Binding) → AreObserved condition listed places → holds_in (bindings places (map (value_at state) places)) condition.formula ≡ holds_in state condition.formula
observed_answer condition listed places state o =
    same_answer condition.formula _ state (λ p m. listed_value places (value_at state) p (o.members.all p (inl m)))
