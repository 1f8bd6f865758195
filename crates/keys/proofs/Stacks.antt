-- Bytes that are seen last first, and the digits of a number, one by one.
use native.Mathlib.Numerals.{unary_clauses}
use Rattle.std.proofs.Common.{◌≡◌, ◌<◌, ◌-◌, ◌+◌, ◌/◌, ◌%◌, ◌^◌, ℕ, suc, List, [], ◌∷◌, ◌++◌, reverse, refl, sym, ◌∙◌, ap, arith}
use Rattle.std.specs.Bool.{Decides, one_answer}
use Rattle.std.specs.Str.{bytes_eq}
use Rattle.std.proofs.Math.Nat.{div-lt_iff_lt-mul}
use Rattle.std.proofs.lemmas.Grind.{reverse_onto}
use Rattle.std.proofs.lemmas.List.{append_assoc, reverse-append, reverse-reverse}
use Rattle.std.proofs.lemmas.Slice.Eq.{bytes_eq-Decides}
use Rattle.keys.specs.Spelling.{byte_over, digits_over, all_over}

bytes_onto : (w s : List ℕ) → all_over byte_over w s ≡ reverse w ++ s
bytes_onto [] s = refl
bytes_onto (x ∷ w) s = bytes_onto w (x ∷ s) ∙ sym (ap (λ r. r ++ s) (reverse_onto w x []) ∙ append_assoc (reverse w) (x ∷ []) s)

-- bytes that stand behind others lie on top of them
pub bytes_behind : (s w : List ℕ) → reverse (s ++ w) ≡ all_over byte_over w (reverse s)
bytes_behind s w = reverse-append s w ∙ sym (bytes_onto w (reverse s))

same_reversed : (s t : List ℕ) → Decides (bytes_eq s t) (reverse s ≡ reverse t)
same_reversed s t =
    let d = bytes_eq-Decides s t in
    (λ h. ap reverse (d.0 h), λ e. d.1 (sym (reverse-reverse s) ∙ ap reverse e ∙ reverse-reverse t))

-- bytes are compared as they are seen
pub compared_reversed : (s t : List ℕ) → bytes_eq s t ≡ bytes_eq (reverse s) (reverse t)
compared_reversed s t = one_answer _ _ (same_reversed s t) (bytes_eq-Decides (reverse s) (reverse t))

-- one digit more
pub next_digit : (i n : ℕ) (s : List ℕ) → i < 7 → digits_over (7 - i) n s ≡ digits_over (7 - (i + 1)) (n / 256) (n % 256 ∷ s)
next_digit i n s l = let is : 7 - i ≡ suc (7 - (i + 1)) = omega (arith, l) in ap (λ k. digits_over k n s) is

-- what is left of a number, digit by digit
below_next : (m n : ℕ) → n < 256 ^ suc m → n / 256 < 256 ^ m
below_next m n h = (div-lt_iff_lt-mul {k = 256} {x = n} {y = 256 ^ m} (omega arith)).1 (simp unary_clauses at h)

pub still_below : (i n : ℕ) → i < 7 → n < 256 ^ (8 - i) → n / 256 < 256 ^ (8 - (i + 1))
still_below i n l h = let is : 8 - i ≡ suc (8 - (i + 1)) = omega (arith, l) in below_next (8 - (i + 1)) n (rw is at h)
