-- Weights beside and within one another.
use Rattle.std.proofs.Common.{◌≡◌, ℕ, zero, suc, ◌≤◌, ◌+◌, ◌*◌, ◌-◌, ◌⊎◌, refl, sym, ◌∙◌, ap, subst, inl, inr, arith}
use Rattle.std.specs.Prelude.{min, max}
use Rattle.std.proofs.lemmas.Bool.{cases_lt}
use Rattle.cat_model.specs.Weights.{Alike, beside, deeper, within, most}
use Rattle.cat_model.specs.declared.weights.Measure.{Measure}
use Rattle.cat_model.specs.declared.weights.Measure.TheVariants.{Size, Depth}

-- alike

pub alike_on : (m : Measure) (a b c : ℕ) → Alike m a b → Alike m b c → Alike m a c
alike_on m a b c (inl e) k = (let P : ℕ → Type 0 = λ x. Alike m x c in subst P (sym e) k)
alike_on m a b c (inr h) (inl d) = (let P : ℕ → Type 0 = λ x. most m ≤ x in inr (h.0, subst P d h.1))
alike_on m a b c (inr h) (inr k) = inr (h.0, k.1)

max_cases : (a b : ℕ) → ((max a b ≡ a) × (b ≤ a)) ⊎ ((max a b ≡ b) × (a ≤ b))
max_cases a b = elim (cases_lt a b) [
  | inl l ↦ inr (omega (arith, l), omega (arith, l))
  | inr l ↦ inl (omega (arith, l), omega (arith, l))
]

pub alike_beside : (m : Measure) (a b c d : ℕ) → Alike m a b → Alike m c d → Alike m (beside m a c) (beside m b d)
alike_beside Size a b c d (inl e) (inl f) = inl (omega (arith, e, f))
alike_beside Size a b c d (inl e) (inr h) = (let l = h.0 in let m = h.1 in inr (omega (arith, l), omega (arith, m)))
alike_beside Size a b c d (inr h) k = (let l = h.0 in let m = h.1 in inr (omega (arith, l), omega (arith, m)))
alike_beside Depth a b c d (inl e) (inl f) = inl (omega (arith, e, f))
alike_beside Depth a b c d (inl e) (inr h) = (let l = h.0 in let m = h.1 in inr (omega (arith, l), omega (arith, m)))
alike_beside Depth a b c d (inr h) k = (let l = h.0 in let m = h.1 in inr (omega (arith, l), omega (arith, m)))

times_one : (a n : ℕ) → 65537 ≤ a → 65537 ≤ a * suc n
times_one a n l = grind arith

deeper_one : (a n : ℕ) → 66 ≤ a → 66 ≤ deeper a (suc n)
deeper_one zero n l = absurd (omega (arith, l))
deeper_one (suc a) n l = omega (arith, l)

deeper_none : (a : ℕ) → deeper a 0 ≡ 0
deeper_none zero = refl
deeper_none (suc a) = refl

pub alike_within : (m : Measure) (a b n : ℕ) → Alike m a b → Alike m (within m a n) (within m b n)
alike_within m a b n (inl e) = inl (ap (λ x. within m x n) e)
alike_within Size a b zero (inr h) = inl (omega arith)
alike_within Size a b (suc n) (inr h) = inr (times_one a n h.0, times_one b n h.1)
alike_within Depth a b zero (inr h) = inl (deeper_none a ∙ sym (deeper_none b))
alike_within Depth a b (suc n) (inr h) = inr (deeper_one a n h.0, deeper_one b n h.1)

-- laws

pub beside_back : (m : Measure) (a b : ℕ) → beside m a b ≡ beside m b a
beside_back Size a b = omega arith
beside_back Depth a b = omega arith

pub beside_on : (m : Measure) (a b c : ℕ) → beside m (beside m a b) c ≡ beside m a (beside m b c)
beside_on Size a b c = omega arith
beside_on Depth a b c = omega arith

pub beside_none : (m : Measure) (a : ℕ) → beside m a 0 ≡ a
beside_none Size a = omega arith
beside_none Depth a = omega arith

pub within_back : (m : Measure) (a b : ℕ) → within m a b ≡ within m b a
within_back Size a b = omega arith
within_back Depth zero b = sym (deeper_none b)
within_back Depth (suc a) zero = refl
within_back Depth (suc a) (suc b) = omega arith

pub within_none : (m : Measure) (a : ℕ) → within m a 0 ≡ 0
within_none Size a = omega arith
within_none Depth a = deeper_none a

pub within_on : (m : Measure) (a b c : ℕ) → within m (within m a b) c ≡ within m a (within m b c)
within_on Size a b c = grind arith
within_on Depth zero b c = refl
within_on Depth (suc a) zero c = refl
within_on Depth (suc a) (suc b) zero = refl
within_on Depth (suc a) (suc b) (suc c) = omega arith

deeper_more : (w a b : ℕ) → a ≤ b → deeper w a ≤ deeper w b
deeper_more zero a b l = omega arith
deeper_more (suc w) zero b l = omega arith
deeper_more (suc w) (suc a) zero l = absurd (omega (arith, l))
deeper_more (suc w) (suc a) (suc b) l = omega (arith, l)

pub within_beside : (m : Measure) (w a b : ℕ) → within m w (beside m a b) ≡ beside m (within m w a) (within m w b)
within_beside Size w a b = grind arith
within_beside Depth w a b = elim (max_cases a b) [
  | inl h ↦ (let l = deeper_more w b a h.1 in let e : deeper w (max a b) ≡ deeper w a = ap (λ x. deeper w x) h.0 in omega (arith, l, e))
  | inr h ↦ (let l = deeper_more w a b h.1 in let e : deeper w (max a b) ≡ deeper w b = ap (λ x. deeper w x) h.0 in omega (arith, l, e))
]

-- what is computed

pub capped : (r a b : ℕ) → r ≡ min a 65537 → a ≡ min b 4294967295 → Alike Size r b
capped r a b e d = elim (cases_lt b 65537) [
  | inl l ↦ inl (omega (arith, e, d, l))
  | inr l ↦ inr (omega (arith, e, d, l), l)
]

pub deeper_nowhere : (r a b : ℕ) → r ≡ 0 → (a ≡ 0) ⊎ (b ≡ 0) → Alike Depth r (deeper a b)
deeper_nowhere r a b e (inl z) = inl (e ∙ ap (λ x. deeper x b) (sym z))
deeper_nowhere r a b e (inr z) = inl (e ∙ sym (deeper_none a) ∙ ap (λ x. deeper a x) (sym z))

pub deeper_capped : (r q a b : ℕ) → r ≡ min q 66 → q ≡ min (a + (b - 1)) 4294967295 → (a ≡ 0 → ⊥) → (b ≡ 0 → ⊥) → Alike Depth r (deeper a b)
deeper_capped r q zero b e d n m = absurd (n refl)
deeper_capped r q (suc a) zero e d n m = absurd (m refl)
deeper_capped r q (suc a) (suc b) e d n m = elim (cases_lt (a + b) 65) [
  | inl l ↦ inl (omega (arith, e, d, l))
  | inr l ↦ inr (omega (arith, e, d, l), omega (arith, l))
]
