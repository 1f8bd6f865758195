-- The first element that passes a test.
use Rattle.std.proofs.Common.{◌≡◌, ℕ, ◌<◌, ◌≤◌, List, length, get_or, true, false, Bool, ap, sym, subst, ◌∙◌, refl, arith, ◌+◌, inl, inr}
use Rattle.std.specs.Prelude.{Some, None}
use Rattle.std.specs.List.{position, position_or_len}
use Rattle.std.proofs.lemmas.Bool.{lt-ltb, le-ltb, cases_lt}
use Rattle.std.proofs.lemmas.List.Sums.{position_or_len_is}

-- what `position` is by what `position_or_len` is
at_place : {X : Type 0} (p : X → Bool) (xs : List X) (i : ℕ) → position_or_len p xs ≡ i → i < length xs → Some i ≡ position p xs
at_place p xs i e h = rw (e, lt-ltb i (length xs) h) refl

at_none : {X : Type 0} (p : X → Bool) (xs : List X) (i : ℕ) → position_or_len p xs ≡ i → length xs ≤ i → None ≡ position p xs
at_none p xs i e h = rw (e, le-ltb i (length xs) h) refl

pub first_at : {X : Type 0} (p : X → Bool) (xs : List X) (i : ℕ) (x d : X) → i < length xs → x ≡ get_or xs i x → ((k : ℕ) (d : X) → k < i → p (get_or xs k d) ≡ false) → p x ≡ true → Some i ≡ position p xs
first_at p xs i x d h e none some =
    at_place p xs i (position_or_len_is p xs i x (omega (arith, h)) (λ k low. none k x low) (λ _. ap p (sym e) ∙ some)) h

pub none_first : {X : Type 0} (p : X → Bool) (xs : List X) (i : ℕ) (d : X) → length xs ≤ i → i ≤ length xs → ((k : ℕ) (d : X) → k < i → p (get_or xs k d) ≡ false) → None ≡ position p xs
none_first p xs i d h l none =
    at_none p xs i (position_or_len_is p xs i d l (λ k low. none k d low) (λ in_it. absurd (omega (arith, in_it, h)))) h

-- one more that has none
pub none_more : (P : ℕ → Type 0) (i : ℕ) → ((m : ℕ) → m < i → ¬ P m) → ¬ P i → (m : ℕ) → m < i + 1 → ¬ P m
none_more P i before here m low has = elim (cases_lt m i) [ inl h ↦ before m h has | inr h ↦ here (subst P (omega (arith, low, h)) has) ]
