-- Rows whose fronts differ are in the order of these.
use Rattle.std.proofs.Common.{◌≡◌, ℕ, zero, suc, ◌+◌, ◌*◌, ◌^◌, ◌<◌, ◌≤◌, ltb-true, ltb-false, List, [], ◌∷◌, Bool, true, false, cond, nat_lt, refl, sym, ap, ◌∙◌, subst, inl, inr, arith}
use Rattle.std.specs.Cmp.{nat_cmp_is}
use Rattle.std.proofs.lemmas.Bool.{cases_order}
use Rattle.std.specs.Cmp.Lexicographic.{slice_cmp, nat_list_cmp_total}
use Rattle.std.specs.Ordering.{nat_cmp, ordering_then, ordering_reverse}
use Rattle.std.specs.declared.cmp.Ordering.{Ordering}
use Rattle.std.specs.declared.cmp.Ordering.TheVariants.{Less, Equal, Greater}
use Rattle.slices.specs.Fronts.{digit, behind, with_digits, front_of}

few_by : (b : Bool) (x : ℕ) → nat_lt x 14 ≡ b → cond b (x + 1) 15 ≤ 15
few_by true x e = grind arith
few_by false x e = omega arith

digit_some : (b : Bool) (x : ℕ) → 0 < cond b (x + 1) 15
digit_some true x = omega arith
digit_some false x = omega arith

pub digit_few : (xs : List ℕ) → digit xs ≤ 15
digit_few [] = omega arith
digit_few (x ∷ xs) = few_by (nat_lt x 14) x refl

-- a lower number stays lower, whatever its digits
pub stays_lower : (n a b : ℕ) (xs ys : List ℕ) → a < b → with_digits n a xs < with_digits n b ys
stays_lower zero a b xs ys h = h
stays_lower (suc n) a b xs ys h = stays_lower n (16 * a + digit xs) (16 * b + digit ys) (behind xs) (behind ys) (omega (arith, h, digit_few xs, digit_few ys))

pub front_small : (xs : List ℕ) → front_of xs < 2 ^ 64
front_small xs = stays_lower 16 0 1 xs [] (omega arith)

pub grows : (n a : ℕ) (xs : List ℕ) → a ≤ with_digits n a xs
grows zero a xs = omega arith
grows (suc n) a xs = omega (arith, grows n (16 * a + digit xs) (behind xs))

-- a digit more fits
pub next_small : (n a : ℕ) (xs values : List ℕ) → 0 < n → with_digits n a xs ≡ front_of values → 16 * a + digit xs < 2 ^ 64
next_small zero a xs values h e = absurd (omega (arith, h))
next_small (suc n) a xs values h e = omega (arith, e, front_small values, grows n (16 * a + digit xs) (behind xs))

lower : (x y : ℕ) → x < y → nat_cmp x y ≡ Less
lower x y h = sym (nat_cmp_is x y Less h)

same_value : (x y : ℕ) → x ≡ y → nat_cmp x y ≡ Equal
same_value x y e = sym (nat_cmp_is x y Equal e)

by_first : (o p : Ordering) → o ≡ Less → ordering_then o p ≡ Less
by_first o p e = ap (λ q. ordering_then q p) e

by_rest : (o p : Ordering) → o ≡ Equal → p ≡ Less → ordering_then o p ≡ Less
by_rest o p e h = ap (λ q. ordering_then q p) e ∙ h

not_below : (n a b : ℕ) (xs ys : List ℕ) → b < a → with_digits n a xs < with_digits n b ys → ⊥
not_below n a b xs ys l h = omega (arith, h, stays_lower n b a ys xs l)

-- rows of which both first values have digits of their own
both_told : (n a x y : ℕ) (xs ys : List ℕ) → with_digits n (16 * a + (x + 1)) xs < with_digits n (16 * a + (y + 1)) ys
    → (with_digits n (16 * a + (x + 1)) xs < with_digits n (16 * a + (x + 1)) ys → slice_cmp nat_cmp xs ys ≡ Less)
    → ordering_then (nat_cmp x y) (slice_cmp nat_cmp xs ys) ≡ Less
both_told n a x y xs ys h rest = elim (cases_order x y) [
  | inl e ↦ by_rest (nat_cmp x y) (slice_cmp nat_cmp xs ys) (same_value x y e)
      (rest (let P : ℕ → Type 0 = λ z. with_digits n (16 * a + (x + 1)) xs < with_digits n (16 * a + (z + 1)) ys in subst P (sym e) h))
  | inr p ↦ elim p [
    | inl l ↦ by_first (nat_cmp x y) (slice_cmp nat_cmp xs ys) (lower x y l)
    | inr l ↦ absurd (not_below n (16 * a + (x + 1)) (16 * a + (y + 1)) xs ys (omega (arith, l)) h)
  ]
]

by_digits : (b c : Bool) (n a x y : ℕ) (xs ys : List ℕ) → nat_lt x 14 ≡ b → nat_lt y 14 ≡ c
    → with_digits n (16 * a + cond b (x + 1) 15) (cond b xs []) < with_digits n (16 * a + cond c (y + 1) 15) (cond c ys [])
    → (with_digits n (16 * a + (x + 1)) xs < with_digits n (16 * a + (x + 1)) ys → slice_cmp nat_cmp xs ys ≡ Less)
    → ordering_then (nat_cmp x y) (slice_cmp nat_cmp xs ys) ≡ Less
by_digits true true n a x y xs ys p q h rest = both_told n a x y xs ys h rest
by_digits true false n a x y xs ys p q h rest = by_first (nat_cmp x y) (slice_cmp nat_cmp xs ys) (lower x y (omega (arith, ltb-true x 14 p, ltb-false y 14 q)))
by_digits false true n a x y xs ys p q h rest = absurd (not_below n (16 * a + 15) (16 * a + (y + 1)) [] ys (omega (arith, ltb-true y 14 q)) h)
by_digits false false n a x y xs ys p q h rest = absurd (omega (arith, h))

-- rows behind one number are in the order of what their digits make of it
rises_behind : (n a : ℕ) (xs ys : List ℕ) → with_digits n a xs < with_digits n a ys → slice_cmp nat_cmp xs ys ≡ Less
rises_behind zero a xs ys h = absurd (omega (arith, h))
rises_behind (suc n) a [] [] h = absurd (omega (arith, h))
rises_behind (suc n) a [] (y ∷ ys) h = refl
rises_behind (suc n) a (x ∷ xs) [] h = absurd (not_below n (16 * a + digit (x ∷ xs)) (16 * a + 0) (behind (x ∷ xs)) [] (omega (arith, digit_some (nat_lt x 14) x)) h)
rises_behind (suc n) a (x ∷ xs) (y ∷ ys) h = by_digits (nat_lt x 14) (nat_lt y 14) n a x y xs ys refl refl h (rises_behind n (16 * a + (x + 1)) xs ys)

pub rises : (xs ys : List ℕ) → front_of xs < front_of ys → slice_cmp nat_cmp xs ys ≡ Less
rises xs ys h = rises_behind 16 0 xs ys h

pub falls : (xs ys : List ℕ) → front_of ys < front_of xs → slice_cmp nat_cmp xs ys ≡ Greater
falls xs ys h = nat_list_cmp_total.antisymm xs ys ∙ ap ordering_reverse (rises ys xs h)

pub digit_put : (n m a : ℕ) (xs : List ℕ) → n ≡ suc m → with_digits n a xs ≡ with_digits m (16 * a + digit xs) (behind xs)
digit_put n m a xs e = ap (λ k. with_digits k a xs) e
