-- The line of a place.
use Rattle.std.proofs.Common.{◌≡◌, ◌≢◌, ℕ, ◌+◌, ◌-◌, ◌<◌, ◌≤◌, ◌⊎◌, inl, inr, List, length, take, drop, ap, sym, ◌∙◌, arith}
use Rattle.std.specs.Prelude.{slice_index}
use Rattle.std.proofs.lemmas.Bool.{cases_lt}
use Rattle.std.proofs.lemmas.List.{get_or-take, get_or-drop, take_all}
use Rattle.places.specs.Lines.{IsLineAt}

-- a byte before the place, and one behind it
left_byte : (text before : List ℕ) (o k : ℕ) → before ≡ take o text → k < o → slice_index before k ≡ slice_index text k
left_byte text before o k e h = ap (λ (l : List ℕ). slice_index l k) e ∙ get_or-take o text k 0 h

right_byte : (text behind : List ℕ) (o k : ℕ) → behind ≡ drop o text → slice_index behind k ≡ slice_index text (o + k)
right_byte text behind o k e = ap (λ (l : List ℕ). slice_index l k) e ∙ get_or-drop o text k 0

-- the line from where the last one before the place begins to where the first one behind it ends
pub line_at : (text before behind : List ℕ) (o from len : ℕ) → before ≡ take o text → behind ≡ drop o text → length before ≡ o → length behind + o ≡ length text →
    from ≤ length before → (0 < from → slice_index before (from - 1) ≡ 10) → ((k : ℕ) → from ≤ k → k < length before → slice_index before k ≢ 10) →
    len ≤ length behind → (len < length behind → slice_index behind len ≡ 10) → ((k : ℕ) → k < len → slice_index behind k ≢ 10) →
    IsLineAt text o from (o + len)
line_at text before behind o from len e f el fl within first none inside last free = record {
  before = omega (arith, within, el);
  behind = omega arith;
  within = omega (arith, inside, fl);
  first = λ h. sym (left_byte text before o (from - 1) e (omega (arith, h, within, el))) ∙ first h;
  last = λ h. sym (right_byte text behind o len f) ∙ last (omega (arith, h, fl));
  unbroken = λ k. either k (cases_lt k o);
} where
  here : (k : ℕ) → from ≤ k → k < o → slice_index text k ≢ 10
  here k low high eq = none k low (omega (arith, high, el)) (left_byte text before o k e high ∙ eq)

  there : (k : ℕ) → o ≤ k → k < o + len → slice_index text k ≢ 10
  there k low high eq =
      let at : o + (k - o) ≡ k = omega (arith, low) in
      free (k - o) (omega (arith, low, high)) (right_byte text behind o (k - o) f ∙ ap (slice_index text) at ∙ eq)

  either : (k : ℕ) → (k < o) ⊎ (o ≤ k) → from ≤ k → k < o + len → slice_index text k ≢ 10
  either k (inl p) low high = here k low p
  either k (inr p) low high = there k p high

-- a front of so many bytes, or of all
pub take_min : (n k : ℕ) (bytes : List ℕ) → k ≤ n → k ≤ length bytes → (k < n → length bytes ≤ k) → take k bytes ≡ take n bytes
take_min n k bytes low long full = elim (cases_lt k n) [ inl h ↦ take_all k bytes (full h) ∙ sym (take_all n bytes (omega (arith, full h, h))) | inr h ↦ ap (λ m. take m bytes) (omega (arith, low, h)) ]
