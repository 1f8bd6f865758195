-- What texts begin with.
use Rattle.std.proofs.Common.{◌≡◌, ℕ, zero, ◌-◌, ◌<◌, ◌≤◌, Bool, true, false, ◌⊎◌, inl, inr, List, [], ◌∷◌, ◌++◌, length, get_or, take, drop, not, sym, refl, ap, ◌∙◌, arith, nat_eq, suc, length-append, length-drop}
use Rattle.std.proofs.lemmas.List.{take_rest}
use Rattle.std.specs.Prelude.{◌&&◌, ◌||◌}
use Rattle.std.proofs.lemmas.Bool.{and_parts, false≢true, eqb-true, eq-eqb}
use Rattle.wb_text.specs.Bytes.{begins_blank, is_blank}
use Rattle.wb_text.specs.Signs.{begins_with}

-- the first byte
abbrev pub first : List ℕ → ℕ
first text = get_or text 0 0

pub both_and : (a b : Bool) → a ≡ true → b ≡ true → (a && b) ≡ true
both_and a b e f = rw e f

pub begins_true : (sign text : List ℕ) → begins_with sign text ≡ true → text ≡ sign ++ drop (length sign) text
begins_true [] text e = refl
begins_true (a ∷ sign) [] e = absurd (false≢true e)
begins_true (a ∷ sign) (b ∷ text) e =
    let p : (nat_eq a b ≡ true) × (begins_with sign text ≡ true) = and_parts (nat_eq a b) (begins_with sign text) e in
    sym (ap (λ x. x ∷ text) (eqb-true a b p.0)) ∙ ap (λ l. a ∷ l) (begins_true sign text p.1)

pub begins_is : (sign rest : List ℕ) → begins_with sign (sign ++ rest) ≡ true
begins_is [] rest = refl
begins_is (a ∷ sign) rest = both_and (nat_eq a a) (begins_with sign (sign ++ rest)) (eq-eqb a a refl) (begins_is sign rest)

pub begins_length : (sign text : List ℕ) → begins_with sign text ≡ true → length sign ≤ length text
begins_length sign text e = omega (arith, ap length (begins_true sign text e), length-append sign (drop (length sign) text))

-- `&text[n..]`
pub range_is : (n : ℕ) (text : List ℕ) → take (length text - n) (drop n text) ≡ drop n text
range_is n text = take_rest text n

pub range_length : (n : ℕ) (text : List ℕ) → length (take (length text - n) (drop n text)) ≡ length text - n
range_length n text = ap length (range_is n text) ∙ length-drop n text

pub nonempty : (n : ℕ) → nat_eq n 0 ≡ false → 0 < n
nonempty zero e = absurd (false≢true (sym e))
nonempty (suc n) e = omega arith

pub not_true : (b : Bool) → (b ≡ true → ⊥) → b ≡ false
not_true true h = absurd (h refl)
not_true false h = refl

pub not_false : (b : Bool) → not b ≡ true → b ≡ false
not_false true e = sym e
not_false false e = refl

pub first_blank : (text : List ℕ) → 0 < length text → begins_blank text ≡ is_blank (first text)
first_blank [] l = absurd (omega arith)
first_blank (b ∷ text) l = refl
