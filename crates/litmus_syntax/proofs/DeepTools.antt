-- Reading functions that never give `deep`, and where the others give it.
use Rattle.std.proofs.Common.{◌≡◌, ℕ, zero, suc, List, ◌∷◌, refl, inl, inr}
use Rattle.std.specs.Prelude.{length, Some, Ok, Err}
use Rattle.descent.specs.Reading.{Look, match_option, turns, repeated}
use Rattle.descent.proofs.Causes.{Never, either, later}
use Rattle.descent.proofs.Tools.{cases_of}
use Rattle.litmus_syntax.proofs.Alike.{Any, Both}
use Rattle.litmus_syntax.proofs.AlikeParts.{both_expected, both_name}
use Rattle.litmus_syntax.specs.declared.symbol.Symbol.{Symbol}
use Rattle.litmus_syntax.specs.declared.symbol.Symbol.TheVariants.{Fixed}
use Rattle.litmus_syntax.specs.declared.symbol.Terminal.{Terminal}
use Rattle.litmus_syntax.specs.declared.symbol.Terminal.TheVariants.{LeftParen}
use Rattle.litmus_syntax.specs.Reading.{Reading, syntax, deep, expected, name_at, opened, open_at}
use Rattle.litmus_syntax.proofs.SingleSymbols.{expected-ok}

-- what opens no level
pub fine : {A : Type 0} {ts us : List Symbol} {o p : Reading A} → Both ⊥ Any ts us o p → Never deep o
fine h = record { never = λ e. (h.told.raised deep e).tells }

pub fine_expected : (t : Terminal) (ts : List Symbol) → Never deep (expected t ts)
fine_expected t ts = fine (both_expected t ts ts)

pub fine_name : (ts : List Symbol) → Never deep (name_at ts)
fine_name ts = fine (both_name ts ts)

-- what was chosen
pub chosen_deep : {A B Q : Type 0} (o : Look Symbol A) {d : Reading B} {f : A × List Symbol → Reading B} → match_option o d f ≡ Err deep → (d ≡ Err deep → Q) → ((x : A × List Symbol) → o ≡ Some x → f x ≡ Err deep → Q) → Q
chosen_deep o {d} {f} e g h = elim (cases_of o d f (Err deep) e) [ inl s ↦ g s.1 | inr (x, was, s) ↦ h x was s ]

-- Turns that are too deep are so in a step, after turns that kept P.
module _ {O A : Type 0} (op : List Symbol → Look Symbol O) (step : O → A → List Symbol → Reading A) (P : List Symbol → A → Type 0)
    (go : (o : O) (ts mid rest : List Symbol) (a b : A) → P ts a → op ts ≡ Some (o, mid) → step o a mid ≡ Ok (b, rest) → P rest b)
    {Q : Type 0} (fails : (o : O) (ts mid : List Symbol) (a : A) → P ts a → op ts ≡ Some (o, mid) → step o a mid ≡ Err deep → Q) where
  turns_deep : (k : ℕ) (a : A) (ts : List Symbol) → P ts a → turns (syntax 0) op step k a ts ≡ Err deep → Q
  unfolding turns
  turns_deep zero a ts p e = absurd (cc)
  turns_deep (suc k) a ts p e =
      chosen_deep (op ts) e (λ d. absurd (cc))
      (λ x was f. either (step x.0 a x.1) f (λ d. fails x.0 ts x.1 a p was d) (λ y is d. turns_deep k y.0 y.1 (go x.0 ts x.1 y.1 a y.0 p was is) d))

  pub repeated_deep : (a : A) (ts : List Symbol) → P ts a → repeated (syntax 0) op step a ts ≡ Err deep → Q
  unfolding repeated
  repeated_deep a ts = turns_deep (suc (length ts)) a ts

-- a parenthesis where no level is left
pub record IsLast (n : ℕ) (ts : List Symbol) : Type 0 where
  pub behind : List Symbol
  pub level : n ≡ zero
  pub front : ts ≡ Fixed LeftParen ∷ behind

opened_deep : (n : ℕ) (ts : List Symbol) → opened n ts ≡ Err deep → n ≡ zero
unfolding opened
opened_deep zero ts e = refl
opened_deep (suc n) ts e = absurd (cc)

pub open_deep : (n : ℕ) (ts : List Symbol) → open_at n ts ≡ Err deep → IsLast n ts
unfolding open_at
open_deep n ts e = later (fine_expected LeftParen ts) e (λ y is d. record { behind = y.1; level = opened_deep n y.1 d; front = expected-ok LeftParen ts y.1 y.0 is })
