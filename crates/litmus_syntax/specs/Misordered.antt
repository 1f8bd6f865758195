-- Calls with an order that they do not take. (ISO/IEC 9899:2011, 7.17.7.2 and 7.17.7.1.)
use Rattle.std.specs.Prelude.{◌≡◌, ℕ, List, ◌∷◌}
use Rattle.listings.specs.Lists.{IsIn}
use Rattle.events.specs.declared.event.Order.{Order}
use Rattle.litmus_syntax.specs.declared.atomics.Operation.{Operation}
use Rattle.litmus_syntax.specs.declared.symbol.Symbol.{Symbol}
use Rattle.litmus_syntax.specs.declared.symbol.Symbol.TheVariants.{Fixed, Call, Name, Number}
use Rattle.litmus_syntax.specs.declared.symbol.Terminal.TheVariants.{LeftParen, Comma}
use Rattle.litmus_syntax.specs.Atomics.{effect_of, accepted, TakesOrder, TakesValue}
use Rattle.litmus_syntax.specs.declared.atomics.Effect.TheVariants.{Loads, Modifies, Fences}
use Rattle.litmus_syntax.specs.Grammar.{IsExpression, IsOrder}
use Rattle.litmus_tree.specs.declared.tree.Computation.{Computation}
use Rattle.litmus_tree.specs.Tree.{Word, Term}

-- A call whose order is one of the five, but none that it takes.
pub data IsMisordered : List Symbol → Type 0 where
  misordered_load : {c : Operation} {x w : Word} {o : Order} {rest : List Symbol} → effect_of c ≡ Loads → TakesOrder c → IsOrder w o → ¬ IsIn o (accepted c) →
      IsMisordered (Call c ∷ Fixed LeftParen ∷ Name x ∷ Fixed Comma ∷ Name w ∷ rest)
  misordered_value : {n : ℕ} {c : Operation} {x w : Word} {e : Term} {o : Order} {ts rest : List Symbol} → TakesValue c → TakesOrder c → IsExpression n ts (Fixed Comma ∷ Name w ∷ rest) e → IsOrder w o → ¬ IsIn o (accepted c) →
      IsMisordered (Call c ∷ Fixed LeftParen ∷ Name x ∷ Fixed Comma ∷ ts)
  misordered_modify : {v : ℕ} {c : Operation} {f : Computation} {x w : Word} {o : Order} {rest : List Symbol} → effect_of c ≡ Modifies f → TakesOrder c → IsOrder w o → ¬ IsIn o (accepted c) →
      IsMisordered (Call c ∷ Fixed LeftParen ∷ Name x ∷ Fixed Comma ∷ Number v ∷ Fixed Comma ∷ Name w ∷ rest)
  misordered_fence : {c : Operation} {w : Word} {o : Order} {rest : List Symbol} → effect_of c ≡ Fences → IsOrder w o → ¬ IsIn o (accepted c) →
      IsMisordered (Call c ∷ Fixed LeftParen ∷ Name w ∷ rest)

-- such a call stands in the symbols
pub data HasMisordered : List Symbol → Type 0 where
  misordered_first : {ts : List Symbol} → IsMisordered ts → HasMisordered ts
  misordered_later : {s : Symbol} {ts : List Symbol} → HasMisordered ts → HasMisordered (s ∷ ts)
