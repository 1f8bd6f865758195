-- Where reading a test gives `misordered`, a call in it has an order that it does not take.
use Rattle.std.proofs.Common.{◌≡◌, ◌≢◌, ℕ, List, [], ◌∷◌, refl, sym, subst, ◌∙◌, inl, inr}
use Rattle.std.specs.Prelude.{length, false, Option, Some, None, Result, Ok, Err}
use Rattle.descent.specs.Reading.{required}
use Rattle.descent.proofs.Causes.{Tail, tail_here, tail_later, Never, never_ok, never_made, later, first}
use Rattle.descent.proofs.Tools.{bind_err, required_ok, chosen}
use Rattle.events.specs.declared.event.Order.{Order}
use Rattle.listings.specs.Lists.{IsIn}
use Rattle.litmus_syntax.specs.declared.atomics.Operation.{Operation}
use Rattle.litmus_syntax.specs.declared.symbol.Symbol.{Symbol}
use Rattle.litmus_syntax.specs.declared.symbol.Symbol.TheVariants.{Fixed, Call, Name, Number}
use Rattle.litmus_syntax.specs.declared.symbol.Terminal.TheVariants.{LeftParen, RightParen, Comma}
use Rattle.litmus_syntax.specs.Atomics.{orders, effect_of, accepted, TakesValue, store_takes, exchange_takes}
use Rattle.litmus_syntax.specs.declared.atomics.Effect.{Effect}
use Rattle.litmus_syntax.specs.declared.atomics.Effect.TheVariants.{Loads, Stores, Exchanges, Modifies, Fences}
use Rattle.litmus_syntax.specs.Grammar.{IsExpression, IsOrder}
use Rattle.litmus_syntax.specs.Misordered.{misordered_load, misordered_value, misordered_modify, misordered_fence, IsMisordered, HasMisordered, misordered_first, misordered_later}
use Rattle.litmus_syntax.specs.Reading.{Reading, Cause, syntax, misordered, open_at, is_among, order_at, last_order_at, closing_at, located_at, valued_at, constant_at, load_at, store_at, exchange_at, modify_at, fence_at, effect_at, operation_at, test_at}
use Rattle.litmus_syntax.specs.Symbols.{looked_up}
use Rattle.litmus_tree.specs.declared.tree.Computation.{Computation}
use Rattle.litmus_tree.specs.Tree.{Word, Term}
use Rattle.litmus_syntax.proofs.Alike.{Both}
use Rattle.litmus_syntax.proofs.AlikeParts.{both_expected, both_name}
use Rattle.litmus_syntax.proofs.AlikeTests.{both_open, both_located, both_valued, both_constant, both_tests}
use Rattle.litmus_syntax.proofs.Calls.{in-among, closing-some, located-sound, valued-sound, constant-sound}
use Rattle.litmus_syntax.proofs.SingleSymbols.{name-ok, expected-ok, open-ok}

-- what has no order in it
ordered : {A : Type 0} {ts us : List Symbol} {o p : Reading A} → Both (Unit {0}) (λ _. ⊥) ts us o p → Never misordered o
ordered h = record { never = λ e. (h.told.raised misordered e).tells }

-- Orders.

-- an order stands in front, and is none of these
record IsOther (os : List Order) (ts : List Symbol) : Type 0 where
  word : Word
  order : Order
  behind : List Symbol
  front : ts ≡ Name word ∷ behind
  names : IsOrder word order
  none : ¬ IsIn order os

not_among : (os : List Order) (o : Order) → is_among os o ≡ false → ¬ IsIn o os
not_among os o e h = let f = in-among os o h in cc

never_required : {A : Type 0} (n : ℕ) (o : Option A) → ◌≡◌ {A = Result A Cause} (required (syntax n) o) (Err misordered) → ⊥
never_required n None e = absurd (cc)
never_required n (Some x) e = absurd (cc)

order_other : (os : List Order) (ts : List Symbol) → order_at os ts ≡ Err misordered → IsOther os ts
unfolding order_at
order_other os ts e =
    later (ordered (both_name ts ts)) e (λ x is d. elim (bind_err (required (syntax (length ts)) (looked_up orders x.0)) _ misordered d) [
      | inl f ↦ absurd (never_required (length ts) (looked_up orders x.0) f)
      | inr (p, was, f) ↦ elim (chosen (is_among os p) _ _ _ f) [
        | inl g ↦ let h = g.1 in absurd (cc)
        | inr g ↦ record { word = x.0; order = p; behind = x.1; front = name-ok ts x.1 x.0 is; names = required_ok (syntax (length ts)) (looked_up orders x.0) p was; none = not_among os p g.0 }
      ]
    ])

last_other : (os : List Order) (ts : List Symbol) → last_order_at os ts ≡ Err misordered → IsOther os ts
unfolding last_order_at
last_other os ts e = first (order_at os ts) e (order_other os ts) (λ o. never_made _ (ordered (both_expected RightParen o.1 o.1)))

-- behind a comma an order stands in front, and is none of these, of which there are some
record IsOtherBehind (os : List Order) (ts : List Symbol) : Type 0 where
  some : os ≢ []
  inside : List Symbol
  comma : ts ≡ Fixed Comma ∷ inside
  other : IsOther os inside

closing_other : (os : List Order) (ts : List Symbol) → closing_at os ts ≡ Err misordered → IsOtherBehind os ts
unfolding closing_at
closing_other [] ts e = absurd ((never_made _ (ordered (both_expected RightParen ts ts))).never e)
closing_other (p ∷ os) ts e = later (ordered (both_expected Comma ts ts)) (sym (closing-some p os ts) ∙ e) (λ y is f.
    record { some = λ g. absurd (cc); inside = y.1; comma = expected-ok Comma ts y.1 y.0 is; other = last_other (p ∷ os) y.1 f })

-- Calls.

load_misordered : (c : Operation) → effect_of c ≡ Loads → (n : ℕ) (ts rest : List Symbol) (x : Word × ℕ) → located_at n ts ≡ Ok (x, rest) → IsOtherBehind (accepted c) rest → IsMisordered (Call c ∷ ts)
load_misordered c k n ts rest x e b =
    let d = located-sound n ts rest x e in
    let a1 : ts ≡ Fixed LeftParen ∷ Name x.0 ∷ rest = d.front in
    let a2 : rest ≡ Fixed Comma ∷ b.inside = b.comma in
    let a3 : b.inside ≡ Name b.other.word ∷ b.other.behind = b.other.front in
    let same : Call c ∷ ts ≡ Call c ∷ Fixed LeftParen ∷ Name x.0 ∷ Fixed Comma ∷ Name b.other.word ∷ b.other.behind = (cc) in
    subst IsMisordered (sym same) (misordered_load k b.some b.other.names b.other.none)

value_misordered : (c : Operation) → TakesValue c → (n : ℕ) (ts rest : List Symbol) (v : Word × Term) → valued_at n ts ≡ Ok (v, rest) → IsOtherBehind (accepted c) rest → IsMisordered (Call c ∷ ts)
value_misordered c k n ts rest v e b =
    let d = valued-sound n ts rest v e in
    let a1 : ts ≡ Fixed LeftParen ∷ Name v.0 ∷ Fixed Comma ∷ d.from = d.front in
    let a2 : rest ≡ Fixed Comma ∷ b.inside = b.comma in
    let a3 : b.inside ≡ Name b.other.word ∷ b.other.behind = b.other.front in
    let behind : rest ≡ Fixed Comma ∷ Name b.other.word ∷ b.other.behind = (cc) in
    let same : Call c ∷ ts ≡ Call c ∷ Fixed LeftParen ∷ Name v.0 ∷ Fixed Comma ∷ d.from = (cc) in
    subst IsMisordered (sym same) (misordered_value k b.some (subst (λ l. IsExpression d.inner d.from l v.1) behind d.value) b.other.names b.other.none)

modify_misordered : (c : Operation) (f : Computation) → effect_of c ≡ Modifies f → (n : ℕ) (ts rest : List Symbol) (v : Word × ℕ) → constant_at n ts ≡ Ok (v, rest) → IsOtherBehind (accepted c) rest → IsMisordered (Call c ∷ ts)
modify_misordered c f k n ts rest v e b =
    let d = constant-sound n ts rest v e in
    let a1 : ts ≡ Fixed LeftParen ∷ Name v.0 ∷ Fixed Comma ∷ Number v.1 ∷ rest = d.front in
    let a2 : rest ≡ Fixed Comma ∷ b.inside = b.comma in
    let a3 : b.inside ≡ Name b.other.word ∷ b.other.behind = b.other.front in
    let same : Call c ∷ ts ≡ Call c ∷ Fixed LeftParen ∷ Name v.0 ∷ Fixed Comma ∷ Number v.1 ∷ Fixed Comma ∷ Name b.other.word ∷ b.other.behind = (cc) in
    subst IsMisordered (sym same) (misordered_modify k b.some b.other.names b.other.none)

fence_misordered : (c : Operation) → effect_of c ≡ Fences → (n m : ℕ) (ts rest : List Symbol) → open_at n ts ≡ Ok (m, rest) → IsOther (accepted c) rest → IsMisordered (Call c ∷ ts)
fence_misordered c k n m ts rest e b =
    let a1 : ts ≡ Fixed LeftParen ∷ rest = (open-ok n m ts rest e).1 in
    let a2 : rest ≡ Name b.word ∷ b.behind = b.front in
    let same : Call c ∷ ts ≡ Call c ∷ Fixed LeftParen ∷ Name b.word ∷ b.behind = (cc) in
    subst IsMisordered (sym same) (misordered_fence k b.names b.none)

effect_misordered : (c : Operation) (f : Effect) → effect_of c ≡ f → (n : ℕ) (ts : List Symbol) → effect_at f (accepted c) n ts ≡ Err misordered → IsMisordered (Call c ∷ ts)
unfolding load_at store_at exchange_at modify_at fence_at
effect_misordered c Loads k n ts e = later (ordered (both_located n ts ts)) e (λ x is d. load_misordered c k n ts x.1 x.0 is (first (closing_at (accepted c) x.1) d (closing_other (accepted c) x.1) (λ o. never_ok)))
effect_misordered c Stores k n ts e = later (ordered (both_valued n ts ts)) e (λ v is d. value_misordered c (store_takes k) n ts v.1 v.0 is (first (closing_at (accepted c) v.1) d (closing_other (accepted c) v.1) (λ o. never_ok)))
effect_misordered c Exchanges k n ts e = later (ordered (both_valued n ts ts)) e (λ v is d. value_misordered c (exchange_takes k) n ts v.1 v.0 is (first (closing_at (accepted c) v.1) d (closing_other (accepted c) v.1) (λ o. never_ok)))
effect_misordered c (Modifies f) k n ts e = later (ordered (both_constant n ts ts)) e (λ v is d. modify_misordered c f k n ts v.1 v.0 is (first (closing_at (accepted c) v.1) d (closing_other (accepted c) v.1) (λ o. never_ok)))
effect_misordered c Fences k n ts e = later (ordered (both_open n ts ts)) e (λ m is d. fence_misordered c k n m.0 ts m.1 is (first (last_order_at (accepted c) m.1) d (last_other (accepted c) m.1) (λ o. never_ok)))

operation_misordered : (c : Operation) (n : ℕ) (ts : List Symbol) → operation_at c n ts ≡ Err misordered → IsMisordered (Call c ∷ ts)
unfolding operation_at
operation_misordered c n ts e = effect_misordered c (effect_of c) refl n ts e

-- Tests.

has_misordered : {ts us : List Symbol} → Tail ts us → IsMisordered us → HasMisordered ts
has_misordered tail_here h = misordered_first h
has_misordered (tail_later d) h = misordered_later (has_misordered d h)

pub test_misordered : (n : ℕ) (ts : List Symbol) → test_at n ts ≡ Err misordered → HasMisordered ts
test_misordered n ts e = let r = (both_tests {M = IsMisordered} operation_misordered n ts ts).told.raised misordered e in has_misordered r.behind r.tells
