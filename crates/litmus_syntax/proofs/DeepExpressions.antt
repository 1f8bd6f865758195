-- Expressions, calls and right sides: where reading gives `deep`, something nests too deep.
use Rattle.std.proofs.Common.{◌≡◌, ℕ, zero, suc, List, ◌∷◌, sym, subst, inl, inr, refl}
use Rattle.std.specs.Prelude.{length, Err}
use Rattle.descent.proofs.Causes.{never_ok, never_made, either, first}
use Rattle.descent.proofs.Tools.{bind_ok, chosen, moved}
use Rattle.litmus_tree.specs.declared.tree.Computation.{Computation}
use Rattle.litmus_syntax.specs.declared.atomics.Operation.{Operation}
use Rattle.litmus_syntax.specs.declared.symbol.Symbol.{Symbol}
use Rattle.litmus_syntax.specs.declared.symbol.Symbol.TheVariants.{Fixed, Call, Name, Number}
use Rattle.litmus_syntax.specs.declared.symbol.Terminal.TheVariants.{LeftParen, RightParen, Comma, Star, Bang}
use Rattle.litmus_syntax.specs.Atomics.{effect_of, accepted, TakesValue, store_takes, exchange_takes, has_value}
use Rattle.litmus_syntax.specs.declared.atomics.Effect.{Effect}
use Rattle.litmus_syntax.specs.declared.atomics.Effect.TheVariants.{Loads, Stores, Exchanges, Modifies, Fences}
use Rattle.litmus_syntax.specs.Depth.{DeepLevel, deep_unary, deep_tighter, deep_joined, DeepUnary, deep_operand, deep_not, deep_paren, DeepExpression, DeepCall, deep_call, deep_value, DeepRight, deep_computed, deep_given}
use Rattle.litmus_syntax.specs.Grammar.{IsLevel, level_tighter, level_joined}
use Rattle.litmus_syntax.specs.Reading.{deep, after, call_word, open_at, Terms, operator_at, unary_with, next_operand, operands, level_with, terms_below, expression_at, located_at, target_at, valued_at, constant_at, load_at, store_at, exchange_at, modify_at, fence_at, effect_at, operation_at, value_at, computed_at, plain_at, right_at}
use Rattle.litmus_syntax.proofs.Calls.{target-sound}
use Rattle.litmus_syntax.proofs.AlikeParts.{both_number, both_closing, both_last_order}
use Rattle.litmus_syntax.proofs.DeepTools.{fine, fine_expected, fine_name, chosen_deep, repeated_deep, open_deep}
use Rattle.litmus_syntax.proofs.Expressions.{operator-some, level_is}
use Rattle.litmus_syntax.proofs.Sounds.{Sound}
use Rattle.litmus_syntax.proofs.SingleSymbols.{call_word-some}

-- Expressions.

record DeepTerms (n : ℕ) (r : Terms) : Type 0 where
  expression : (ts : List Symbol) → r.expression ts ≡ Err deep → DeepLevel 3 n ts
  unary : (ts : List Symbol) → r.unary ts ≡ Err deep → DeepUnary n ts

module _ (n : ℕ) (r : Terms) (inner : DeepTerms n r) (sound : (k : ℕ) → Sound (level_with r k) (IsLevel k n)) where
  unary_deep : (ts : List Symbol) → unary_with r ts ≡ Err deep → DeepUnary (suc n) ts
  unfolding unary_with
  unary_deep (Name x ∷ ts) e = absurd (cc)
  unary_deep (Number v ∷ ts) e = absurd (cc)
  unary_deep (Fixed Bang ∷ ts) e = deep_not (first (r.unary ts) e (inner.unary ts) (λ a. never_ok))
  unary_deep (Fixed LeftParen ∷ ts) e = deep_paren (first (r.expression ts) e (inner.expression ts) (λ a. never_made _ (fine_expected RightParen a.1)))
  unary_deep ts e = absurd (cc)

  operands_deep : (k : ℕ) → ((ts : List Symbol) → level_with r k ts ≡ Err deep → DeepLevel k (suc n) ts) →
      (ts : List Symbol) → operands (operator_at k) (level_with r k) ts ≡ Err deep → DeepLevel (suc k) (suc n) ts
  unfolding operands
  operands_deep k item ts e =
      either (level_with r k ts) e (λ d. deep_tighter (item ts d))
      (λ x is f. repeated_deep (operator_at k) (next_operand (level_with r k)) (λ l t. IsLevel (suc k) n ts l t)
      (λ o us mid back b c d was g.
      let q = bind_ok (level_with r k mid) _ _ g in
      let t = operator-some k us mid o was in
      moved (λ l t. IsLevel (suc k) n ts l t) q.2 (level_joined (subst (λ l. IsLevel (suc k) n ts l b) t.1 d) t.2 (sound k mid q.0.1 q.0.0 q.1)))
      (λ o us mid b d was g.
      let t = operator-some k us mid o was in
      deep_joined (subst (λ l. IsLevel (suc k) n ts l b) t.1 d) t.2 (first (level_with r k mid) g (item mid) (λ y. never_ok)))
      x.0 x.1 (level_tighter (sound k ts x.1 x.0 is)) f)

  level_deep : (k : ℕ) (ts : List Symbol) → level_with r k ts ≡ Err deep → DeepLevel k (suc n) ts
  unfolding level_with
  level_deep zero ts e = deep_unary (unary_deep ts e)
  level_deep (suc k) ts e = operands_deep k (level_deep k) ts e

terms_deep : (n : ℕ) → DeepTerms n (terms_below n)
unfolding terms_below
terms_deep zero = record { expression = λ ts e. deep_tighter (deep_tighter (deep_tighter (deep_unary deep_operand))); unary = λ ts e. deep_operand }
terms_deep (suc n) = record {
  expression = λ ts e. level_deep n (terms_below n) (terms_deep n) (level_is n) 3 ts e;
  unary = λ ts e. unary_deep n (terms_below n) (terms_deep n) (level_is n) ts e;
}

pub expression_deep : (n : ℕ) (ts : List Symbol) → expression_at n ts ≡ Err deep → DeepExpression (suc n) ts
expression_deep n ts e = level_deep n (terms_below n) (terms_deep n) (level_is n) 3 ts e

-- where nothing at all may nest
pub any_expression : (ts : List Symbol) → DeepExpression zero ts
any_expression ts = deep_tighter (deep_tighter (deep_tighter (deep_unary deep_operand)))

-- Arguments.

-- no level is left for the parentheses of a call
closed_call : (c : Operation) (n : ℕ) (ts : List Symbol) → open_at n ts ≡ Err deep → DeepCall c (suc n) ts
closed_call c n ts e =
    let p = open_deep n ts e in
    let P : ℕ → List Symbol → Type 0 = λ m l. DeepCall c (suc m) l in
    subst (λ m. P m ts) (sym p.level) (subst (λ l. P zero l) (sym p.front) deep_call)

located_deep : (c : Operation) (n : ℕ) (ts : List Symbol) → located_at n ts ≡ Err deep → DeepCall c (suc n) ts
unfolding located_at
located_deep c n ts e = first (open_at n ts) e (closed_call c n ts) (λ m. never_made _ (fine_name m.1))

target_deep : (c : Operation) (n : ℕ) (ts : List Symbol) → target_at n ts ≡ Err deep → DeepCall c (suc n) ts
unfolding target_at
target_deep c n ts e = first (located_at n ts) e (located_deep c n ts) (λ x. never_made _ (fine_expected Comma x.1))

valued_deep : (c : Operation) → TakesValue c → (n : ℕ) (ts : List Symbol) → valued_at n ts ≡ Err deep → DeepCall c (suc n) ts
unfolding valued_at
valued_deep c takes n ts e =
    either (target_at n ts) e (target_deep c n ts)
    (λ x is f.
    let d = target-sound n ts x.1 x.0 is in
    let P : ℕ → List Symbol → Type 0 = λ m l. DeepCall c (suc m) l in
    first (expression_at x.0.1 x.1) f
    (λ g. subst (λ m. P m ts) (sym d.level) (subst (λ l. P (suc x.0.1) l) (sym d.front) (deep_value takes (expression_deep x.0.1 x.1 g))))
    (λ v. never_ok))

constant_deep : (c : Operation) (n : ℕ) (ts : List Symbol) → constant_at n ts ≡ Err deep → DeepCall c (suc n) ts
unfolding constant_at
constant_deep c n ts e = first (target_at n ts) e (target_deep c n ts) (λ x. never_made _ (fine (both_number x.1 x.1)))

-- Calls, by what they do.

load_deep : (c : Operation) (n : ℕ) (ts : List Symbol) → load_at (accepted c) n ts ≡ Err deep → DeepCall c (suc n) ts
unfolding load_at
load_deep c n ts e = first (located_at n ts) e (located_deep c n ts) (λ x. never_made _ (fine (both_closing (accepted c) x.1 x.1)))

store_deep : (c : Operation) → effect_of c ≡ Stores → (n : ℕ) (ts : List Symbol) → store_at (accepted c) n ts ≡ Err deep → DeepCall c (suc n) ts
unfolding store_at
store_deep c k n ts e = first (valued_at n ts) e (valued_deep c (store_takes k) n ts) (λ v. never_made _ (fine (both_closing (accepted c) v.1 v.1)))

exchange_deep : (c : Operation) → effect_of c ≡ Exchanges → (n : ℕ) (ts : List Symbol) → exchange_at (accepted c) n ts ≡ Err deep → DeepCall c (suc n) ts
unfolding exchange_at
exchange_deep c k n ts e = first (valued_at n ts) e (valued_deep c (exchange_takes k) n ts) (λ v. never_made _ (fine (both_closing (accepted c) v.1 v.1)))

modify_deep : (c : Operation) (f : Computation) (n : ℕ) (ts : List Symbol) → modify_at f (accepted c) n ts ≡ Err deep → DeepCall c (suc n) ts
unfolding modify_at
modify_deep c f n ts e = first (constant_at n ts) e (constant_deep c n ts) (λ v. never_made _ (fine (both_closing (accepted c) v.1 v.1)))

fence_deep : (c : Operation) (n : ℕ) (ts : List Symbol) → fence_at (accepted c) n ts ≡ Err deep → DeepCall c (suc n) ts
unfolding fence_at
fence_deep c n ts e = first (open_at n ts) e (closed_call c n ts) (λ m. never_made _ (fine (both_last_order (accepted c) m.1 m.1)))

effect_deep : (c : Operation) (f : Effect) → effect_of c ≡ f → (n : ℕ) (ts : List Symbol) → effect_at f (accepted c) n ts ≡ Err deep → DeepCall c (suc n) ts
effect_deep c Loads k n ts e = load_deep c n ts e
effect_deep c Stores k n ts e = store_deep c k n ts e
effect_deep c Exchanges k n ts e = exchange_deep c k n ts e
effect_deep c (Modifies f) k n ts e = modify_deep c f n ts e
effect_deep c Fences k n ts e = fence_deep c n ts e

pub operation_deep : (c : Operation) (n : ℕ) (ts : List Symbol) → operation_at c n ts ≡ Err deep → DeepCall c (suc n) ts
unfolding operation_at
operation_deep c n ts e = effect_deep c (effect_of c) refl n ts e

-- Right sides.

value_deep : (left : ℕ) (c : Operation) (n : ℕ) (ts : List Symbol) → value_at left c n ts ≡ Err deep → DeepRight (suc n) (Call c ∷ ts)
unfolding value_at
value_deep left c n ts e =
    elim (chosen (has_value c) _ _ _ e) [
      | inl g ↦ deep_given g.0 (first (operation_at c n ts) g.1 (operation_deep c n ts) (λ a. never_ok))
      | inr g ↦ (let h = g.1 in absurd (cc))
    ]

computed_deep : (n : ℕ) (ts : List Symbol) → computed_at n ts ≡ Err deep → DeepRight (suc n) ts
unfolding computed_at
computed_deep n ts e = deep_computed (first (expression_at n ts) e (expression_deep n ts) (λ a. never_ok))

pub right_deep : (n : ℕ) (ts : List Symbol) → right_at n ts ≡ Err deep → DeepRight (suc n) ts
unfolding right_at plain_at
right_deep n ts e =
    chosen_deep (after Star ts) e
    (λ g. chosen_deep (call_word ts) g (computed_deep n ts)
    (λ c was f. subst (λ l. DeepRight (suc n) l) (sym (call_word-some ts c.1 c.0 was)) (value_deep (length ts) c.0 n c.1 f)))
    (λ y was f. absurd ((never_made _ (fine_name y.1)).never f))
