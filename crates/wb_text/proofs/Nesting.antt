-- Nested comments by counting what is open.
use Rattle.std.proofs.Common.{◌≡◌, ℕ, zero, suc, ◌+◌, ◌-◌, ◌<◌, true, false, List, ◌++◌, length, take, drop, subst, arith, add-one, sub-one}
use Rattle.std.specs.Prelude.{codes}
use Rattle.std.proofs.lemmas.List.{take_rest}
use Rattle.wb_text.specs.Signs.{begins_with}
use Rattle.wb_text.specs.Gaps.{IsNested, closed, nested, other}
use Rattle.wb_text.proofs.Texts.{begins_true}
use Rattle.wb_text.proofs.Gaps.{nested_closed, nested_opened, nested_other, nested_shorter}

-- with n comments open, the text goes on to the sign that closes the last of them
abbrev pub Closes : ℕ → List ℕ → List ℕ → Type 0
Closes zero text end = text ≡ end
Closes (suc n) text end = (behind : List ℕ) × IsNested text behind × Closes n behind end

-- a comment that began at `inside` ends where the n that are open at `rest` do
pub record Agrees (n : ℕ) (rest inside : List ℕ) : Type 0 where
  pub forward : (end : List ℕ) → Closes n rest end → IsNested inside end
  pub backward : (end : List ℕ) → IsNested inside end → Closes n rest end

pub agrees_opened : (n : ℕ) (rest inside after : List ℕ) → 0 < n → Agrees n rest inside → rest ≡ codes "(*" ++ after → Agrees (n + 1) after inside
agrees_opened zero rest inside after p a e = absurd (omega arith)
agrees_opened (suc n) rest inside after p a e = rw add-one (record {
  forward = λ end h. a.forward end (h.2.0, nested e h.1 h.2.1, h.2.2);
  backward = λ end h.
      let g = a.backward end h in
      let o = nested_opened g.1 e in
      (o.0, o.1, (g.0, o.2, g.2));
})

pub agrees_closed : (n : ℕ) (rest inside after : List ℕ) → 0 < n → Agrees n rest inside → rest ≡ codes "*)" ++ after → Agrees (n - 1) after inside
agrees_closed zero rest inside after p a e = absurd (omega arith)
agrees_closed (suc n) rest inside after p a e = rw sub-one (record {
  forward = λ end h. a.forward end (after, closed e, h);
  backward = λ end h.
      let g = a.backward end h in
      subst (λ l. Closes n l end) (nested_closed g.1 e) g.2;
})

pub agrees_other : (n : ℕ) (rest inside : List ℕ) → 0 < n → Agrees n rest inside → 0 < length rest → begins_with (codes "(*") rest ≡ false → begins_with (codes "*)") rest ≡ false → Agrees n (drop 1 rest) inside
agrees_other zero rest inside p a l m k = absurd (omega arith)
agrees_other (suc n) rest inside p a l m k = record {
  forward = λ end h. a.forward end (h.0, other l m k h.1, h.2);
  backward = λ end h.
      let g = a.backward end h in
      (g.0, nested_other g.1 m k, g.2);
}

pub agrees_never : (n : ℕ) (rest inside : List ℕ) → 0 < n → Agrees n rest inside → length rest ≡ 0 → (end : List ℕ) → IsNested inside end → ⊥
agrees_never zero rest inside p a e end h = omega arith
agrees_never (suc n) rest inside p a e end h =
    let g = a.backward end h in
    omega (arith, nested_shorter g.1)

-- the same as the loop has it
module _ (n : ℕ) (rest inside : List ℕ) (p : 0 < n) (a : Agrees n rest inside) where
  pub opened_range : begins_with (codes "(*") rest ≡ true → Agrees (n + 1) (take (length rest - 2) (drop 2 rest)) inside
  opened_range e = rw take_rest (agrees_opened n rest inside (drop 2 rest) p a (begins_true (codes "(*") rest e))

  pub closed_range : begins_with (codes "*)") rest ≡ true → Agrees (n - 1) (take (length rest - 2) (drop 2 rest)) inside
  closed_range e = rw take_rest (agrees_closed n rest inside (drop 2 rest) p a (begins_true (codes "*)") rest e))

  pub other_range : 0 < length rest → begins_with (codes "(*") rest ≡ false → begins_with (codes "*)") rest ≡ false → Agrees n (take (length rest - 1) (drop 1 rest)) inside
  other_range l m k = rw take_rest (agrees_other n rest inside p a l m k)
