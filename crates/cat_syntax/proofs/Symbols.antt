-- Single symbols.
use Rattle.std.proofs.Common.{◌≡◌, ◌∙◌, ℕ, zero, suc, ◌<◌, List, [], ◌∷◌, length, true, false, refl, ap, subst, sym, arith, inl, inr}
use Rattle.std.proofs.lemmas.Cmp.{nat_eq_equiv}
use Rattle.std.specs.Prelude.{find, Bool, Option, Some, None, Ok, if◌then◌else◌}
use Rattle.descent.proofs.Tools.{required_ok, cases_of, moved_look}
use Rattle.cat_tree.specs.declared.node.Infix.{Infix}
use Rattle.cat_syntax.specs.declared.operator.Postfix.{Postfix}
use Rattle.cat_syntax.specs.declared.syntax_fault.SyntaxFault.TheVariants.{Unexpected}
use Rattle.cat_syntax.specs.declared.symbol.Symbol.{Symbol}
use Rattle.cat_syntax.specs.declared.symbol.Symbol.TheVariants.{Fixed, Name}
use Rattle.cat_syntax.specs.declared.symbol.Terminal.{Terminal}
use Rattle.cat_syntax.specs.declared.symbol.Terminal.TheVariants.{Let, Bar, Semicolon, Backslash, Ampersand, Star, Plus, Question, Inverse}
use Rattle.cat_syntax.specs.Grammar.{JoinsLeft, joins_product, joins_difference, JoinsRight, joins_intersection, joins_sequence, joins_union, begins_operand}
use Rattle.cat_syntax.specs.Symbols.{terminals}
use Rattle.cat_syntax.specs.Reading.{terminal_eq, after, expected, name_at, sign, infix_at, associates_left, postfix_at}

pub terminal_eq-refl : (a : Terminal) → terminal_eq a a ≡ true
terminal_eq-refl a = nat_eq_equiv.refl _

-- terminals that are equal are equal to the same ones
terminal_eq-congr : (a b t : Terminal) → terminal_eq a b ≡ true → terminal_eq a t ≡ terminal_eq b t
terminal_eq-congr a b t e = nat_eq_equiv.congr _ _ _ e

found-alike : (a b : Terminal) → terminal_eq a b ≡ true → (ts : List Terminal) → find (terminal_eq a) ts ≡ find (terminal_eq b) ts
found-alike a b e [] = refl
found-alike a b e (t ∷ ts) = rw (terminal_eq-congr a b t e, found-alike a b e ts) refl

-- the first of all terminals that is equal to one is that one
found-itself : (a : Terminal) → find (terminal_eq a) terminals ≡ Some a
found-itself Let = refl
found-itself a = refl

pub terminal_eq-true : (a b : Terminal) → terminal_eq a b ≡ true → a ≡ b
terminal_eq-true a b e = let same : Some a ≡ Some b = sym (found-itself a) ∙ found-alike a b e terminals ∙ found-itself b in cc

pub after-some : (t : Terminal) (ts rest : List Symbol) (u : Unit {0}) → after t ts ≡ Some (u, rest) → ts ≡ Fixed t ∷ rest
unfolding after
after-some t (Fixed v ∷ ts) rest u e = grind (arith, terminal_eq-true)
after-some t ts rest u e = absurd (cc)

pub after-first : (t : Terminal) (ts : List Symbol) → after t (Fixed t ∷ ts) ≡ Some (tt, ts)
unfolding after
after-first t ts = rw (terminal_eq-refl t)

pub after-none : (t : Terminal) (ts rest : List Symbol) → after t ts ≡ None → ts ≡ Fixed t ∷ rest → ⊥
after-none t ts rest e same =
    let f : after t (Fixed t ∷ rest) ≡ None = subst (λ l. after t l ≡ None) same e in
    let g : after t (Fixed t ∷ rest) ≡ Some (tt, rest) = after-first t rest in
    cc

pub after_takes : (t : Terminal) (ts rest : List Symbol) (u : Unit {0}) → after t ts ≡ Some (u, rest) → length rest < length ts
after_takes t ts rest u e = omega (arith, ap length (after-some t ts rest u e))

pub expected-ok : (t : Terminal) (ts rest : List Symbol) (u : Unit {0}) → expected t ts ≡ Ok (u, rest) → ts ≡ Fixed t ∷ rest
unfolding expected
expected-ok t ts rest u e = after-some t ts rest u (required_ok (Unexpected, ts) (after t ts) (u, rest) e)

pub expected-first : (t : Terminal) (ts : List Symbol) → expected t (Fixed t ∷ ts) ≡ Ok (tt, ts)
unfolding expected
expected-first t ts = rw (after-first t ts)

pub name-ok : (ts rest : List Symbol) (x : List ℕ) → name_at ts ≡ Ok (x, rest) → ts ≡ Name x ∷ rest
unfolding name_at
name-ok (Name y ∷ ts) rest x e = let same : ◌≡◌ {A = List ℕ × List Symbol} (y, ts) (x, rest) = cc in let p : y ≡ x = ap (λ (q : List ℕ × List Symbol). q.0) same in let q : ts ≡ rest = ap (λ (q : List ℕ × List Symbol). q.1) same in cc
name-ok ts rest x e = absurd (cc)

-- what an operator of a level is
pub data JoinsAt (k : ℕ) (t : Terminal) (o : Infix) : Type 0 where
  at_left : associates_left k ≡ true → JoinsLeft k t o → JoinsAt k t o
  at_right : associates_left k ≡ false → JoinsRight k t o → JoinsAt k t o

pub joins-left : {k : ℕ} {t : Terminal} {o : Infix} → JoinsAt k t o → associates_left k ≡ true → JoinsLeft k t o
joins-left (at_left e j) h = j
joins-left (at_right e j) h = absurd (cc)

pub joins-right : {k : ℕ} {t : Terminal} {o : Infix} → JoinsAt k t o → associates_left k ≡ false → JoinsRight k t o
joins-right (at_left e j) h = absurd (cc)
joins-right (at_right e j) h = j

sign-some : (k : ℕ) (t : Terminal) (o : Infix) → JoinsAt k t o → (ts rest : List Symbol) (p : Infix) → sign t o ts ≡ Some (p, rest) → (u : Terminal) × (ts ≡ Fixed u ∷ rest) × JoinsAt k u p
sign-some k t o j ts rest p e =
    elim (cases_of (after t ts) _ _ _ e) [
      | inl s ↦ absurd (cc)
      | inr (y, was, f) ↦ moved_look (λ l q. (u : Terminal) × (ts ≡ Fixed u ∷ l) × JoinsAt k u q) f (t, after-some t ts y.1 y.0 was, j)
    ]

pub infix-some : (k : ℕ) (ts rest : List Symbol) (o : Infix) → infix_at k ts ≡ Some (o, rest) → (t : Terminal) × (ts ≡ Fixed t ∷ rest) × JoinsAt k t o
unfolding infix_at associates_left
infix-some zero ts rest o e = sign-some 0 Star _ (at_left refl joins_product) ts rest o e
infix-some (suc zero) ts rest o e = sign-some 1 Ampersand _ (at_right refl joins_intersection) ts rest o e
infix-some (suc (suc zero)) ts rest o e = sign-some 2 Backslash _ (at_left refl joins_difference) ts rest o e
infix-some (suc (suc (suc zero))) ts rest o e = sign-some 3 Semicolon _ (at_right refl joins_sequence) ts rest o e
infix-some (suc (suc (suc (suc zero)))) ts rest o e = sign-some 4 Bar _ (at_right refl joins_union) ts rest o e
infix-some (suc (suc (suc (suc (suc k))))) ts rest o e = absurd (cc)

pub infix_takes : (k : ℕ) (ts rest : List Symbol) (o : Infix) → infix_at k ts ≡ Some (o, rest) → length rest < length ts
infix_takes k ts rest o e = omega (arith, ap length (infix-some k ts rest o e).1)

-- a test that was not met
pub if-none : {A : Type 0} (b : Bool) (x : Option A) (y : A) → (if b then None else x) ≡ Some y → (b ≡ false) × (x ≡ Some y)
if-none true x y e = absurd (cc)
if-none false x y e = (refl, e)

pub postfix_takes : (ts rest : List Symbol) (o : Postfix) → postfix_at ts ≡ Some (o, rest) → length rest < length ts
unfolding postfix_at
postfix_takes (Fixed Plus ∷ ts) rest o e = moved_look (λ l p. length l < suc (length ts)) e (omega arith)
postfix_takes (Fixed Star ∷ ts) rest o e = moved_look (λ l p. length l < suc (length ts)) (if-none (begins_operand ts) _ _ e).1 (omega arith)
postfix_takes (Fixed Question ∷ ts) rest o e = moved_look (λ l p. length l < suc (length ts)) e (omega arith)
postfix_takes (Fixed Inverse ∷ ts) rest o e = moved_look (λ l p. length l < suc (length ts)) e (omega arith)
postfix_takes ts rest o e = absurd (cc)
