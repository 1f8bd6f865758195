-- What can be told: whether P holds, where it can be told of its parts.
use Rattle.std.proofs.Common.{◌≡◌, ◌<◌, ◌⊎◌, ℕ, zero, suc, List, [], ◌∷◌, Bool, true, refl, sym, ◌∙◌, subst, inl, inr, arith}
use Rattle.std.specs.Bool.{Decides}
use Rattle.std.proofs.lemmas.Bool.{cases_Bool, cases_eq, false≢true}
use Rattle.std.proofs.lemmas.Bool.Decides.{Decides-ltb}
use Rattle.listings.specs.Lists.{IsIn, StandsAt}

-- it is told whether P holds
abbrev pub Told : Type 0 → Type 0
Told P = P ⊎ (P → ⊥)

pub told_truth : (b : Bool) → Told (b ≡ true)
told_truth b = elim (cases_Bool b) [ inl t ↦ inl t | inr f ↦ inr (λ t. false≢true (sym f ∙ t)) ]

pub told_or : (P Q : Type 0) → Told P → Told Q → Told (P ⊎ Q)
told_or P Q (inl p) q = inl (inl p)
told_or P Q (inr p) (inl q) = inl (inr q)
told_or P Q (inr p) (inr q) = inr (λ x. elim x [ inl a ↦ p a | inr b ↦ q b ])

pub told_and : (P Q : Type 0) → Told P → Told Q → Told (P × Q)
told_and P Q (inl p) (inl q) = inl (p, q)
told_and P Q (inl p) (inr q) = inr (λ x. q x.1)
told_and P Q (inr p) q = inr (λ x. p x.0)

pub told_as : (P Q : Type 0) → (P → Q) → (Q → P) → Told P → Told Q
told_as P Q f g (inl p) = inl (f p)
told_as P Q f g (inr p) = inr (λ q. p (g q))

pub told_each : (P Q R : Type 0) → Told P → Told Q → Told R → Told (P × Q × R)
told_each P Q R p q r = told_as (P × (Q × R)) (P × Q × R) (λ h. (h.0, h.1.0, h.1.1)) (λ h. (h.0, (h.1, h.2))) (told_and P (Q × R) p (told_and Q R q r))

pub told_not : (P : Type 0) → Told P → Told (P → ⊥)
told_not P (inl p) = inr (λ f. f p)
told_not P (inr p) = inl p

-- by a truth value that is true exactly where P holds
pub told_by : (b : Bool) (P : Type 0) → Decides b P → Told P
told_by b P d = told_as (b ≡ true) P d.0 d.1 (told_truth b)

pub told_below : (i j : ℕ) → Told (i < j)
told_below i j = told_by _ (i < j) (Decides-ltb i j)

one_more : (P : ℕ → Type 0) (n : ℕ) → Told (P n) → Told ((m : ℕ) × (m < n) × P m) → Told ((m : ℕ) × (m < suc n) × P m)
one_more P n (inl p) r = inl (n, omega arith, p)
one_more P n (inr p) (inl x) = inl (x.0, (let l : x.0 < n = x.1 in omega (arith, l)), x.2)
one_more P n (inr p) (inr r) = inr (λ x. elim (cases_eq x.0 n) [
  | inl e ↦ p (subst P e x.2)
  | inr d ↦ (let l : x.0 < suc n = x.1 in r (x.0, omega (arith, l, d), x.2))
])

-- Whether one of n numbers has the property.
pub told_some : (P : ℕ → Type 0) → ((m : ℕ) → Told (P m)) → (n : ℕ) → Told ((m : ℕ) × (m < n) × P m)
told_some P d zero = inr (λ x. (let l : x.0 < 0 = x.1 in absurd (omega (arith, l))))
told_some P d (suc n) = one_more P n (d n) (told_some P d n)

-- Whether one of a list has it.
pub told_one : {X : Type 0} (P : X → Type 0) → ((x : X) → Told (P x)) → (xs : List X) → Told ((x : X) × IsIn x xs × P x)
told_one P d [] = inr (λ x. x.1)
told_one {X} P d (y ∷ ys) =
    told_as (P y ⊎ ((x : X) × IsIn x ys × P x)) ((x : X) × IsIn x (y ∷ ys) × P x)
    (λ h. elim h [ inl p ↦ (y, inl refl, p) | inr r ↦ (r.0, inr r.1, r.2) ])
    (λ h. elim h.1 [ inl e ↦ inl (subst P e h.2) | inr m ↦ inr (h.0, m, h.2) ])
    (told_or (P y) ((x : X) × IsIn x ys × P x) (d y) (told_one P d ys))

-- Whether x stands at a place.
pub told_at : {X : Type 0} → ((x y : X) → Told (x ≡ y)) → (xs : List X) (i : ℕ) (x : X) → Told (StandsAt xs i x)
told_at d [] i x = inr (λ h. h)
told_at d (y ∷ ys) zero x = d x y
told_at d (y ∷ ys) (suc i) x = told_at d ys i x
