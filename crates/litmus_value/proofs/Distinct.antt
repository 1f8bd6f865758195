-- The values of a test are listed, and adding constants never loses a value.
use Rattle.std.proofs.Common.{◌≡◌, ℕ, ◌≤◌, ◌⊎◌, List, [], ◌∷◌, ◌++◌, length, sym, ◌∙◌, refl, subst, inl, inr, arith, Bool, true, false, if◌then◌else◌, ◌==◌, ◌||◌, length-append}
use Rattle.std.specs.List.{list_any}
use Rattle.std.proofs.lemmas.Bool.{cases_Bool, or_cases, eqb-true, eq-eqb, false≢true}
use Rattle.listings.specs.Lists.{IsIn, NoRepeats}
use Rattle.listings.proofs.Listings.{in_append, in_left, in_right, once_append}
use Rattle.litmus_value.specs.Values.{with_value, with_values}

pub any_in : (vs : List ℕ) (v : ℕ) → list_any (λ w. w == v) vs ≡ true → IsIn v vs
any_in [] v h = absurd (false≢true h)
any_in (w ∷ vs) v h = elim (or_cases (w == v) (list_any (λ u. u == v) vs) h) [ inl a ↦ inl (sym (eqb-true w v a)) | inr b ↦ inr (any_in vs v b) ]

or_left : (a b : Bool) → a ≡ true → (a || b) ≡ true
or_left a b h = rw h refl

or_right : (a b : Bool) → b ≡ true → (a || b) ≡ true
or_right true b h = refl
or_right false b h = h

pub in_any : (vs : List ℕ) (v : ℕ) → IsIn v vs → list_any (λ w. w == v) vs ≡ true
in_any [] v h = absurd h
in_any (w ∷ vs) v h = elim h [ inl e ↦ or_left (w == v) (list_any (λ u. u == v) vs) (eq-eqb w v (sym e)) | inr m ↦ or_right (w == v) (list_any (λ u. u == v) vs) (in_any vs v m) ]

-- One value more, once.
pub with_in : (vs : List ℕ) (c v : ℕ) → IsIn v (with_value vs c) → IsIn v vs ⊎ (v ≡ c)
with_in vs c v h = elim (cases_Bool (list_any (λ w. w == c) vs)) [
  | inl t ↦ inl (let P : Bool → Type 0 = λ b. IsIn v (if b then vs else vs ++ c ∷ []) in subst P t h)
  | inr t ↦ (let P : Bool → Type 0 = λ b. IsIn v (if b then vs else vs ++ c ∷ []) in
      elim (in_append vs (c ∷ []) v (subst P t h)) [ inl a ↦ inl a | inr b ↦ elim b [ inl e ↦ inr e | inr n ↦ absurd n ] ])
]

in_with : (vs : List ℕ) (c v : ℕ) → IsIn v vs ⊎ (v ≡ c) → IsIn v (with_value vs c)
in_with vs c v h =
    let P : Bool → Type 0 = λ b. IsIn v (if b then vs else vs ++ c ∷ []) in
    elim (cases_Bool (list_any (λ w. w == c) vs)) [
      | inl t ↦ subst P (sym t) (elim h [ inl a ↦ a | inr e ↦ (let Q : ℕ → Type 0 = λ u. IsIn u vs in subst Q (sym e) (any_in vs c t)) ])
      | inr t ↦ subst P (sym t) (elim h [ inl a ↦ in_left vs (c ∷ []) v a | inr e ↦ in_right vs (c ∷ []) v (inl e) ])
    ]

once_with : (vs : List ℕ) (c : ℕ) → NoRepeats vs → NoRepeats (with_value vs c)
once_with vs c o =
    let P : Bool → Type 0 = λ b. NoRepeats (if b then vs else vs ++ c ∷ []) in
    elim (cases_Bool (list_any (λ w. w == c) vs)) [
      | inl t ↦ subst P (sym t) o
      | inr t ↦ subst P (sym t) (once_append vs (c ∷ []) o (λ h. h, tt)
          (λ x a b. elim b [ inl e ↦ (let Q : ℕ → Type 0 = λ u. IsIn u vs in false≢true (sym t ∙ in_any vs c (subst Q e a))) | inr n ↦ n ]))
    ]

pub with_longer : (vs : List ℕ) (c : ℕ) → length vs ≤ length (with_value vs c)
with_longer vs c =
    let P : Bool → Type 0 = λ b. length vs ≤ length (if b then vs else vs ++ c ∷ []) in
    elim (cases_Bool (list_any (λ w. w == c) vs)) [
      | inl t ↦ subst P (sym t) (omega arith)
      | inr t ↦ subst P (sym t) (omega (arith, length-append vs (c ∷ [])))
    ]

-- Further constants only add values.
pub longer : (vs cs : List ℕ) → length vs ≤ length (with_values vs cs)
longer vs [] = omega arith
longer vs (c ∷ cs) = omega (arith, with_longer vs c, longer (with_value vs c) cs)

pub with_append : (vs cs ds : List ℕ) → with_values vs (cs ++ ds) ≡ with_values (with_values vs cs) ds
with_append vs [] ds = refl
with_append vs (c ∷ cs) ds = with_append (with_value vs c) cs ds

pub with_values_in : (vs cs : List ℕ) (v : ℕ) → IsIn v (with_values vs cs) → IsIn v vs ⊎ IsIn v cs
with_values_in vs [] v h = inl h
with_values_in vs (c ∷ cs) v h = elim (with_values_in (with_value vs c) cs v h) [
  | inl a ↦ elim (with_in vs c v a) [ inl b ↦ inl b | inr e ↦ inr (inl e) ]
  | inr b ↦ inr (inr b)
]

pub in_with_values : (vs cs : List ℕ) (v : ℕ) → IsIn v vs ⊎ IsIn v cs → IsIn v (with_values vs cs)
in_with_values vs [] v h = elim h [ inl a ↦ a | inr n ↦ absurd n ]
in_with_values vs (c ∷ cs) v h = in_with_values (with_value vs c) cs v (elim h [
  | inl a ↦ inl (in_with vs c v (inl a))
  | inr b ↦ elim b [ inl e ↦ inl (in_with vs c v (inr e)) | inr m ↦ inr m ]
])

pub once_with_values : (vs cs : List ℕ) → NoRepeats vs → NoRepeats (with_values vs cs)
once_with_values vs [] o = o
once_with_values vs (c ∷ cs) o = once_with_values (with_value vs c) cs (once_with vs c o)
