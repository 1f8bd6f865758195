-- Single symbols.
use Rattle.std.proofs.Common.{◌≡◌, ℕ, suc, zero, List, [], ◌∷◌, inl, inr, refl, sym, subst, arith, rules, ap, ◌∙◌, ◌<◌, length}
use Rattle.std.specs.Prelude.{true, false, Some, None, Ok}
use Rattle.std.specs.Str.{bytes_eq}
use Rattle.std.proofs.lemmas.Slice.Eq.{bytes_eq-Decides}
use Rattle.descent.proofs.Tools.{bind_ok, required_ok, moved, moved_look, chosen, cases_of}
use Rattle.litmus_syntax.specs.declared.atomics.Operation.{Operation}
use Rattle.litmus_syntax.specs.declared.symbol.Symbol.{Symbol}
use Rattle.litmus_syntax.specs.declared.symbol.Symbol.TheVariants.{Fixed, Call, Name, Number, Word as head_word, Foreign, Other}
use Rattle.litmus_syntax.specs.declared.symbol.Terminal.{Terminal}
use Rattle.litmus_syntax.specs.declared.symbol.Terminal.TheVariants.{LeftParen}
use Rattle.litmus_syntax.specs.Reading.{syntax, terminal_eq, after, expected, unless, name_at, number_look, number_at, call_word, before_name, opened, open_at, word_at}
use Rattle.litmus_tree.specs.Tree.{Word}

pub bytes_eq-true : (x y : Word) → bytes_eq x y ≡ true → x ≡ y
bytes_eq-true x y e = (bytes_eq-Decides x y).0 e

pub bytes_eq-refl : (x : Word) → bytes_eq x x ≡ true
bytes_eq-refl x = (bytes_eq-Decides x x).1 refl

pub bytes_eq-false : (x y : Word) → bytes_eq x y ≡ false → ¬ (x ≡ y)
bytes_eq-false x y e same =
    let t : bytes_eq x y ≡ true = (bytes_eq-Decides x y).1 same in
    cc

pub terminal_eq-true : (a b : Terminal) → terminal_eq a b ≡ true → a ≡ b
terminal_eq-true a b e = search rules

pub terminal_eq-refl : (a : Terminal) → terminal_eq a a ≡ true
terminal_eq-refl a = search rules

pub after-some : (t : Terminal) (ts rest : List Symbol) (u : Unit {0}) → after t ts ≡ Some (u, rest) → ts ≡ Fixed t ∷ rest
unfolding after
after-some t [] rest u e = absurd (cc)
after-some t (Fixed v ∷ ts) rest u e =
    elim (chosen (terminal_eq v t) _ _ _ e) [
      | inl g ↦ moved_look (λ l w. Fixed v ∷ ts ≡ Fixed t ∷ l) g.1 (ap (λ w. Fixed w ∷ ts) (terminal_eq-true v t g.0))
      | inr g ↦ let h = g.1 in absurd (cc)
    ]
after-some t (Name x ∷ ts) rest u e = absurd (cc)
after-some t (Number n ∷ ts) rest u e = absurd (cc)
after-some t (head_word x ∷ ts) rest u e = absurd (cc)
after-some t (Call c ∷ ts) rest u e = absurd (cc)
after-some t (Foreign x ∷ ts) rest u e = absurd (cc)
after-some t (Other ∷ ts) rest u e = absurd (cc)

pub after_takes : (t : Terminal) (ts rest : List Symbol) (u : Unit {0}) → after t ts ≡ Some (u, rest) → length rest < length ts
after_takes t ts rest u e = omega (arith, ap length (after-some t ts rest u e))

pub after-first : (t : Terminal) (ts : List Symbol) → after t (Fixed t ∷ ts) ≡ Some (tt, ts)
unfolding after
after-first t ts = rw (terminal_eq-refl t)

pub after-none : (t : Terminal) (ts rest : List Symbol) → after t ts ≡ None → ts ≡ Fixed t ∷ rest → ⊥
after-none t ts rest e same =
    let f : after t (Fixed t ∷ rest) ≡ None = subst (λ l. after t l ≡ None) same e in
    let g : after t (Fixed t ∷ rest) ≡ Some (tt, rest) = after-first t rest in
    cc

-- another terminal stands first
pub name-not : (t : Terminal) (x : Word) (ts : List Symbol) → after t (Name x ∷ ts) ≡ None
unfolding after
name-not t x ts = refl

pub call_word-some : (ts rest : List Symbol) (c : Operation) → call_word ts ≡ Some (c, rest) → ts ≡ Call c ∷ rest
unfolding call_word
call_word-some (Call d ∷ ts) rest c e = moved_look (λ l t. Call d ∷ ts ≡ Call t ∷ l) e refl
call_word-some ts rest c e = absurd (cc)

pub expected-first : (t : Terminal) (ts : List Symbol) → expected t (Fixed t ∷ ts) ≡ Ok (tt, ts)
unfolding expected
expected-first t ts = rw (after-first t ts)

pub expected-ok : (t : Terminal) (ts rest : List Symbol) (u : Unit {0}) → expected t ts ≡ Ok (u, rest) → ts ≡ Fixed t ∷ rest
unfolding expected
expected-ok t ts rest u e = after-some t ts rest u (required_ok (syntax (length ts)) (after t ts) (u, rest) e)

pub unless-same : (t : Terminal) (ts rest : List Symbol) (u : Unit {0}) → unless t ts ≡ Some (u, rest) → rest ≡ ts
unfolding unless
unless-same t ts rest u e =
    elim (cases_of (after t ts) _ _ _ e) [
      | inl g ↦ sym (moved_look (λ l v. ts ≡ l) g.1 refl)
      | inr (y, was, g) ↦ absurd (cc)
    ]

pub name-ok : (ts rest : List Symbol) (x : Word) → name_at ts ≡ Ok (x, rest) → ts ≡ Name x ∷ rest
unfolding name_at
name-ok (Name y ∷ ts) rest x e = moved (λ l t. Name y ∷ ts ≡ Name t ∷ l) e refl
name-ok ts rest x e = absurd (cc)

pub number_look-some : (ts rest : List Symbol) (n : ℕ) → number_look ts ≡ Some (n, rest) → ts ≡ Number n ∷ rest
unfolding number_look
number_look-some (Number m ∷ ts) rest n e = moved_look (λ l t. Number m ∷ ts ≡ Number t ∷ l) e refl
number_look-some ts rest n e = absurd (cc)

pub number-ok : (ts rest : List Symbol) (n : ℕ) → number_at ts ≡ Ok (n, rest) → ts ≡ Number n ∷ rest
unfolding number_at
number-ok ts rest n e = number_look-some ts rest n (required_ok (syntax (length ts)) (number_look ts) (n, rest) e)

pub word-ok : (ts rest : List Symbol) (x : Word) → word_at ts ≡ Ok (x, rest) → ts ≡ head_word x ∷ rest
unfolding word_at
word-ok (head_word y ∷ ts) rest x e = moved (λ l t. head_word y ∷ ts ≡ head_word t ∷ l) e refl
word-ok ts rest x e = absurd (cc)

pub before_name-same : (ts rest : List Symbol) (u : Unit {0}) → before_name ts ≡ Some (u, rest) → rest ≡ ts
unfolding before_name
before_name-same (Name x ∷ ts) rest u e = sym (moved_look (λ l v. Name x ∷ ts ≡ l) e refl)
before_name-same ts rest u e = absurd (cc)

opened-ok : (n m : ℕ) (ts rest : List Symbol) → opened n ts ≡ Ok (m, rest) → (n ≡ suc m) × (ts ≡ rest)
unfolding opened
opened-ok zero m ts rest e = absurd (cc)
opened-ok (suc k) m ts rest e = moved (λ l j. (suc k ≡ suc j) × (ts ≡ l)) e (refl, refl)

pub open-ok : (n m : ℕ) (ts rest : List Symbol) → open_at n ts ≡ Ok (m, rest) → (n ≡ suc m) × (ts ≡ Fixed LeftParen ∷ rest)
unfolding open_at
open-ok n m ts rest e =
    let y = bind_ok (expected LeftParen ts) _ _ e in
    let o = opened-ok n m y.0.1 rest y.2 in
    (o.0, expected-ok LeftParen ts y.0.1 y.0.0 y.1 ∙ ap (λ l. Fixed LeftParen ∷ l) o.1)

pub open-first : (n : ℕ) (ts : List Symbol) → open_at (suc n) (Fixed LeftParen ∷ ts) ≡ Ok (n, ts)
unfolding open_at opened
open-first n ts = rw (expected-first LeftParen ts)
