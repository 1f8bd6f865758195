-- How values are written as bytes. Bytes stand last first: what is written of a value stands on top of all that was written before.
use Rattle.std.specs.Prelude.{◌≡◌, ℕ, zero, suc, ◌/◌, ◌%◌, ◌<◌, List, [], ◌∷◌, length, Option, None, Some, nat_lt, if◌then◌else◌, true, false, refl}
use Rattle.std.proofs.Common.{◌∙◌, ap, sym, inl, inr, ◌⊎◌, arith}
use Rattle.std.proofs.Math.Nat.{div-add-mod}
use Rattle.std.proofs.lemmas.Bool.{lt-ltb, ltb-true}

-- What is written of a value tells the value, and what lay below it.
pub record Spelling (A : Type 0) : Type 0 where
  pub over : A → List ℕ → List ℕ
  pub exact : (a b : A) (s t : List ℕ) → over a s ≡ over b t → (a ≡ b) × (s ≡ t)

abbrev pub top : List ℕ → ℕ
top [] = 0
top (x ∷ s) = x

abbrev pub below : List ℕ → List ℕ
below [] = []
below (x ∷ s) = s

-- a byte

abbrev pub byte_over : ℕ → List ℕ → List ℕ
byte_over b s = b ∷ s

pub byte_exact : (a b : ℕ) (s t : List ℕ) → byte_over a s ≡ byte_over b t → (a ≡ b) × (s ≡ t)
byte_exact a b s t p = (ap top p, ap below p)

abbrev pub spelled_byte : Spelling ℕ
spelled_byte = record { over = byte_over; exact = byte_exact }

-- A number below 255 is one byte. A greater one is its seven last bytes, the last first, then all that is left of it, and 255 on top.

abbrev pub digits_over : ℕ → ℕ → List ℕ → List ℕ
digits_over zero n s = n ∷ s
digits_over (suc k) n s = digits_over k (n / 256) (n % 256 ∷ s)

abbrev pub number_over : ℕ → List ℕ → List ℕ
number_over n s = if nat_lt n 255 then n ∷ s else 255 ∷ digits_over 7 n s

one_number : (n m : ℕ) → n / 256 ≡ m / 256 → n % 256 ≡ m % 256 → n ≡ m
one_number n m p q = omega (arith, p, q, div-add-mod n 256, div-add-mod m 256)

digits_exact : (k n m : ℕ) (s t : List ℕ) → digits_over k n s ≡ digits_over k m t → (n ≡ m) × (s ≡ t)
digits_exact zero n m s t p = (ap top p, ap below p)
digits_exact (suc k) n m s t p =
    let h = digits_exact k (n / 256) (m / 256) (n % 256 ∷ s) (m % 256 ∷ t) p in
    (one_number n m h.0 (ap top h.1), ap below h.1)

small_or_wide : (n : ℕ) → ((n < 255) × (nat_lt n 255 ≡ true)) ⊎ (nat_lt n 255 ≡ false)
small_or_wide n = grind (arith, lt-ltb, ltb-true)

pub number_exact : (n m : ℕ) (s t : List ℕ) → number_over n s ≡ number_over m t → (n ≡ m) × (s ≡ t)
number_exact n m s t p = elim (small_or_wide n) [
  | inl h ↦ elim (small_or_wide m) [
    | inl k ↦ (let e = rw (h.1, k.1) at p in (ap top e, ap below e))
    | inr k ↦ (let e = rw (h.1, k) at p in absurd (omega (arith, h.0, ap top e)))
  ]
  | inr h ↦ elim (small_or_wide m) [
    | inl k ↦ (let e = rw (h, k.1) at p in absurd (omega (arith, k.0, ap top e)))
    | inr k ↦ (let e = rw (h, k) at p in digits_exact 7 n m s t (ap below e))
  ]
]

abbrev pub spelled_number : Spelling ℕ
spelled_number = record { over = number_over; exact = number_exact }

-- a list: one element after another, and how many they are on top

module _ {A : Type 0} where
  abbrev pub all_over : (A → List ℕ → List ℕ) → List A → List ℕ → List ℕ
  all_over over [] s = s
  all_over over (x ∷ xs) s = all_over over xs (over x s)

  abbrev pub list_over : (A → List ℕ → List ℕ) → List A → List ℕ → List ℕ
  list_over over xs s = number_over (length xs) (all_over over xs s)

  all_exact : (a : Spelling A) (xs ys : List A) (s t : List ℕ) → length xs ≡ length ys → all_over a.over xs s ≡ all_over a.over ys t → (xs ≡ ys) × (s ≡ t)
  all_exact a [] [] s t l p = (refl, p)
  all_exact a [] (y ∷ ys) s t l p = absurd (omega (arith, l))
  all_exact a (x ∷ xs) [] s t l p = absurd (omega (arith, l))
  all_exact a (x ∷ xs) (y ∷ ys) s t l p =
      let h = all_exact a xs ys (a.over x s) (a.over y t) (omega (arith, l)) p in
      let g = a.exact x y s t h.1 in
      (λ i. g.0 i ∷ h.0 i, g.1)

  pub list_exact : (a : Spelling A) (xs ys : List A) (s t : List ℕ) → list_over a.over xs s ≡ list_over a.over ys t → (xs ≡ ys) × (s ≡ t)
  list_exact a xs ys s t p =
      let h = number_exact (length xs) (length ys) (all_over a.over xs s) (all_over a.over ys t) p in
      all_exact a xs ys s t h.0 h.1

  abbrev pub spelled_list : Spelling A → Spelling (List A)
  spelled_list a = record { over = list_over a.over; exact = list_exact a }

  -- what may be missing: 0 where it is, and else 1 on top

  abbrev pub option_over : (A → List ℕ → List ℕ) → Option A → List ℕ → List ℕ
  option_over over None s = 0 ∷ s
  option_over over (Some x) s = 1 ∷ over x s

  pub option_exact : (a : Spelling A) (x y : Option A) (s t : List ℕ) → option_over a.over x s ≡ option_over a.over y t → (x ≡ y) × (s ≡ t)
  option_exact a None None s t p = (refl, ap below p)
  option_exact a (Some x) (Some y) s t p = let h = a.exact x y s t (ap below p) in (ap Some h.0, h.1)
  option_exact a x y s t p = absurd (cc)

  abbrev pub spelled_option : Spelling A → Spelling (Option A)
  spelled_option a = record { over = option_over a.over; exact = option_exact a }

-- the bytes of a name or of a text
abbrev pub spelled_bytes : Spelling (List ℕ)
spelled_bytes = spelled_list spelled_byte

-- a pair: the first, and the second on top
module _ {A B : Type 0} where
  abbrev pub pair_over : (A → List ℕ → List ℕ) → (B → List ℕ → List ℕ) → A × B → List ℕ → List ℕ
  pair_over first second x s = second x.1 (first x.0 s)

  pub pair_exact : (a : Spelling A) (b : Spelling B) (x y : A × B) (s t : List ℕ) → pair_over a.over b.over x s ≡ pair_over a.over b.over y t → (x ≡ y) × (s ≡ t)
  pair_exact a b x y s t p =
      let h = b.exact x.1 y.1 (a.over x.0 s) (a.over y.0 t) p in
      let g = a.exact x.0 y.0 s t h.1 in
      (λ i. (g.0 i, h.0 i), g.1)

  abbrev pub spelled_pair : Spelling A → Spelling B → Spelling (A × B)
  spelled_pair a b = record { over = pair_over a.over b.over; exact = pair_exact a b }

-- a value, as what it is made of: `from` undoes `to`
module _ {A : Type 0} (B : Type 0) where
  pub by_exact : (b : Spelling B) (to : A → B) (from : B → A) → ((x : A) → from (to x) ≡ x) → (x y : A) (s t : List ℕ) → b.over (to x) s ≡ b.over (to y) t → (x ≡ y) × (s ≡ t)
  by_exact b to from back x y s t p =
      let h = b.exact (to x) (to y) s t p in
      (sym (back x) ∙ ap from h.0 ∙ back y, h.1)

  abbrev pub spell_by : Spelling B → (to : A → B) (from : B → A) → ((x : A) → from (to x) ≡ x) → Spelling A
  spell_by b to from back = record { over = λ x s. b.over (to x) s; exact = by_exact b to from back }
