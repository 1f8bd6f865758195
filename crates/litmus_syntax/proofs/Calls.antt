-- Orders, calls and right sides: what is read is in the grammar, and what is in the grammar is read.
use Rattle.std.proofs.Common.{◌≡◌, ℕ, suc, ◌<◌, List, [], ◌∷◌, length, sym, subst, arith, inl, inr, refl, ap, ◌∙◌, rules, tests}
use Rattle.std.specs.Prelude.{Bool, true, false, ◌||◌, ◌==◌, Some, None, Ok, Err, if◌then◌else◌}
use Rattle.std.proofs.lemmas.Bool.{or_cases}
use Rattle.descent.specs.Reading.{◌>>=◌, required}
use Rattle.descent.proofs.Tools.{bind_ok, required_ok, cases_of, chosen, moved, Yields}
use Rattle.events.specs.contracts.event.OrderPartialEq.TheImpl.{ghosts as order_equality}
use Rattle.events.specs.declared.event.Order.{Order}
use Rattle.events.specs.declared.event.Order.TheVariants.{Sc}
use Rattle.listings.specs.Lists.{IsIn}
use Rattle.litmus_syntax.specs.declared.atomics.Operation.{Operation}
use Rattle.litmus_syntax.specs.declared.symbol.Symbol.{Symbol}
use Rattle.litmus_syntax.specs.declared.symbol.Symbol.TheVariants.{Fixed, Call, Name, Number}
use Rattle.litmus_syntax.specs.declared.symbol.Terminal.{Terminal}
use Rattle.litmus_syntax.specs.declared.symbol.Terminal.TheVariants.{LeftParen, RightParen, Comma, Star}
use Rattle.litmus_syntax.specs.Atomics.{orders, effect_of, accepted, is_valued, has_value}
use Rattle.litmus_syntax.specs.declared.atomics.Effect.{Effect}
use Rattle.litmus_syntax.specs.declared.atomics.Effect.TheVariants.{Loads, Stores, Exchanges, Modifies, Fences}
use Rattle.litmus_syntax.specs.Grammar.{IsExpression, level_unary, level_tighter, level_joined, IsLevel, IsUnary, unary_denied, unary_paren, unary_name, unary_number, IsLastOrder, last_order, IsClosing, closing_sc, closing_order, IsCall, call_load, call_store, call_exchange, call_modify, call_fence, HasValue, load_has, exchange_has, modify_has, IsRight, right_computed, right_read, right_call}
use Rattle.litmus_syntax.specs.Reading.{syntax, misordered, after, expected, name_at, call_word, open_at, expression_at, is_among, order_at, last_order_at, closing_at, number_at, located_at, target_at, valued_at, constant_at, number_look, load_at, store_at, exchange_at, modify_at, fence_at, effect_at, operation_at, value_at, computed_at, plain_at, right_at}
use Rattle.litmus_syntax.specs.Symbols.{looked_up}
use Rattle.litmus_tree.specs.declared.tree.Computation.{Computation}
use Rattle.litmus_tree.specs.Tree.{Word, Term, Action, load, store, exchange, modify, fence, Right, computed, plain_read, value_of}
use Rattle.litmus_syntax.proofs.Expressions.{Ends, level_shorter, expression-sound, expression-complete, paren-ends, comma-ends}
use Rattle.litmus_syntax.proofs.Sounds.{Sound}
use Rattle.litmus_syntax.proofs.SingleSymbols.{after-some, after-first, expected-ok, expected-first, name-ok, number-ok, open-ok, open-first, call_word-some}

-- orders

order_eq-true : (p o : Order) → order_equality.eq p o ≡ true → p ≡ o
order_eq-true p o e = search rules

order_eq-refl : (o : Order) → order_equality.eq o o ≡ true
order_eq-refl o = search rules

or_right : (a b : Bool) → b ≡ true → (a || b) ≡ true
or_right true b h = refl
or_right false b h = h

or_left : (a b : Bool) → a ≡ true → (a || b) ≡ true
or_left true b h = refl
or_left false b h = absurd (cc)

among-in : (os : List Order) (o : Order) → is_among os o ≡ true → IsIn o os
among-in [] o e = absurd (cc)
among-in (p ∷ os) o e = elim (or_cases (order_equality.eq p o) (is_among os o) e) [
  | inl h ↦ inl (sym (order_eq-true p o h))
  | inr h ↦ inr (among-in os o h)
]

pub in-among : (os : List Order) (o : Order) → IsIn o os → is_among os o ≡ true
in-among [] o h = absurd h
in-among (p ∷ os) o h = elim h [
  | inl e ↦ or_left (order_equality.eq p o) (is_among os o) (subst (λ (q : Order). order_equality.eq q o ≡ true) e (order_eq-refl o))
  | inr m ↦ or_right (order_equality.eq p o) (is_among os o) (in-among os o m)
]

last_order-sound : (os : List Order) → Sound (last_order_at os) (IsLastOrder os)
unfolding last_order_at order_at
last_order-sound os ts rest a e =
    let o = bind_ok (name_at ts >>= λ x. required (syntax (length ts)) (looked_up orders x.0) >>= λ o. if is_among os o then Ok (o, x.1) else Err misordered) _ _ e in
    let y = bind_ok (expected RightParen o.0.1) _ _ o.2 in
    let x = bind_ok (name_at ts) _ _ o.1 in
    let p = bind_ok (required (syntax (length ts)) (looked_up orders x.0.0)) _ _ x.2 in
    elim (chosen (is_among os p.0) _ _ _ p.2) [
      | inl g ↦
          let at : x.0.1 ≡ o.0.1 = moved (λ l t. x.0.1 ≡ l) g.1 refl in
          let is : p.0 ≡ o.0.0 = moved (λ l t. p.0 ≡ t) g.1 refl in
          let b : ts ≡ Name x.0.0 ∷ x.0.1 = name-ok ts x.0.1 x.0.0 x.1 in
          let c : o.0.1 ≡ Fixed RightParen ∷ y.0.1 = expected-ok RightParen o.0.1 y.0.1 y.0.0 y.1 in
          let same : ts ≡ Name x.0.0 ∷ Fixed RightParen ∷ y.0.1 = cc in
          moved (λ l t. IsLastOrder os ts l t) y.2 (subst (λ l. IsLastOrder os l y.0.1 o.0.0) (sym same)
          (subst (λ (q : Order). IsLastOrder os (Name x.0.0 ∷ Fixed RightParen ∷ y.0.1) y.0.1 q) is
          (last_order (required_ok (syntax (length ts)) (looked_up orders x.0.0) p.0 p.1) (among-in os p.0 g.0))))
      | inr g ↦ let h = g.1 in absurd (cc)
    ]

last_order-first : {os : List Order} {ts rest : List Symbol} {o : Order} → IsLastOrder os ts rest o → Yields (last_order_at os) ts rest o
unfolding last_order_at order_at name_at
last_order-first {os} (last_order {w} {o} {rest} d m) = record { is = rw (d, in-among os o m, expected-first RightParen rest) }

last_order_shorter : {os : List Order} {ts rest : List Symbol} {o : Order} → IsLastOrder os ts rest o → length rest < length ts
last_order_shorter (last_order d m) = omega arith

-- what closes a call

some_orders : (p : Order) (os : List Order) → (length (p ∷ os) == 0) ≡ false
some_orders p os = search (rules, tests)

pub closing-some : (p : Order) (os : List Order) (ts : List Symbol) → closing_at (p ∷ os) ts ≡ (expected Comma ts >>= λ y. last_order_at (p ∷ os) y.1)
unfolding closing_at
closing-some p os ts = rw (some_orders p os)

closing-sound : (os : List Order) → Sound (closing_at os) (IsClosing os)
unfolding closing_at
closing-sound [] ts rest a e =
    let y = bind_ok (expected RightParen ts) _ _ e in
    moved (λ l t. IsClosing [] ts l t) y.2 (subst (λ l. IsClosing [] l y.0.1 Sc) (sym (expected-ok RightParen ts y.0.1 y.0.0 y.1)) closing_sc)
closing-sound (p ∷ os) ts rest a e =
    let y = bind_ok (expected Comma ts) (λ y. last_order_at (p ∷ os) y.1) (a, rest) (sym (closing-some p os ts) ∙ e) in
    subst (λ l. IsClosing (p ∷ os) l rest a) (sym (expected-ok Comma ts y.0.1 y.0.0 y.1)) (closing_order (last_order-sound (p ∷ os) y.0.1 rest a y.2))

none-last : {ts rest : List Symbol} {o : Order} → IsLastOrder [] ts rest o → ⊥
none-last (last_order d m) = absurd m

closing_order-first : (os : List Order) {ts rest : List Symbol} {o : Order} → IsLastOrder os ts rest o → Yields (closing_at os) (Fixed Comma ∷ ts) rest o
closing_order-first [] d = absurd (none-last d)
closing_order-first (p ∷ os) {ts} d = record { is = rw (closing-some p os (Fixed Comma ∷ ts), expected-first Comma ts, (last_order-first d).is) }

closing_sc-first : (rest : List Symbol) → Yields (closing_at []) (Fixed RightParen ∷ rest) rest Sc
unfolding closing_at
closing_sc-first rest = record { is = rw (expected-first RightParen rest) }

closing-first : {os : List Order} {ts rest : List Symbol} {o : Order} → IsClosing os ts rest o → Yields (closing_at os) ts rest o
closing-first (closing_sc {rest}) = closing_sc-first rest
closing-first (closing_order {os} d) = closing_order-first os d

closing_shorter : {os : List Order} {ts rest : List Symbol} {o : Order} → IsClosing os ts rest o → length rest < length ts
closing_shorter closing_sc = omega arith
closing_shorter (closing_order d) = omega (arith, last_order_shorter d)

-- an expression ends where a call is closed
closing-ends : {os : List Order} {ts rest : List Symbol} {o : Order} → IsClosing os ts rest o → Ends 3 ts
closing-ends (closing_sc {rest}) = paren-ends 3 rest
closing-ends (closing_order {ts = ts} d) = comma-ends 3 ts

-- arguments

-- an opening parenthesis and a location, which leave m levels
pub record IsLocated (n : ℕ) (ts rest : List Symbol) (x : Word × ℕ) : Type 0 where
  pub level : n ≡ suc x.1
  pub front : ts ≡ Fixed LeftParen ∷ Name x.0 ∷ rest

pub located-sound : (n : ℕ) → Sound (located_at n) (IsLocated n)
unfolding located_at
located-sound n ts rest a e =
    let m = bind_ok (open_at n ts) _ _ e in
    let x = bind_ok (name_at m.0.1) _ _ m.2 in
    let o = open-ok n m.0.0 ts m.0.1 m.1 in
    let b : ts ≡ Fixed LeftParen ∷ m.0.1 = o.1 in
    let c : m.0.1 ≡ Name x.0.0 ∷ x.0.1 = name-ok m.0.1 x.0.1 x.0.0 x.1 in
    moved (λ l t. IsLocated n ts l t) x.2 (record { level = o.0; front = (cc) })

located-first : (n : ℕ) (x : Word) (rest : List Symbol) → located_at (suc n) (Fixed LeftParen ∷ Name x ∷ rest) ≡ Ok ((x, n), rest)
unfolding located_at name_at
located-first n x rest = rw (open-first n (Name x ∷ rest))

pub record IsTarget (n : ℕ) (ts rest : List Symbol) (x : Word × ℕ) : Type 0 where
  pub level : n ≡ suc x.1
  pub front : ts ≡ Fixed LeftParen ∷ Name x.0 ∷ Fixed Comma ∷ rest

pub target-sound : (n : ℕ) → Sound (target_at n) (IsTarget n)
unfolding target_at
target-sound n ts rest a e =
    let x = bind_ok (located_at n ts) _ _ e in
    let y = bind_ok (expected Comma x.0.1) _ _ x.2 in
    let d = located-sound n ts x.0.1 x.0.0 x.1 in
    let b : ts ≡ Fixed LeftParen ∷ Name x.0.0.0 ∷ x.0.1 = d.front in
    let c : x.0.1 ≡ Fixed Comma ∷ y.0.1 = expected-ok Comma x.0.1 y.0.1 y.0.0 y.1 in
    moved (λ l t. IsTarget n ts l t) y.2 (record { level = d.level; front = (cc) })

target-first : (n : ℕ) (x : Word) (rest : List Symbol) → target_at (suc n) (Fixed LeftParen ∷ Name x ∷ Fixed Comma ∷ rest) ≡ Ok ((x, n), rest)
unfolding target_at
target-first n x rest = rw (located-first n x (Fixed Comma ∷ rest), expected-first Comma rest)

-- a location and a value
pub record IsValued (n : ℕ) (ts rest : List Symbol) (v : Word × Term) : Type 0 where
  pub inner : ℕ
  pub level : n ≡ suc inner
  pub from : List Symbol
  pub front : ts ≡ Fixed LeftParen ∷ Name v.0 ∷ Fixed Comma ∷ from
  pub value : IsExpression inner from rest v.1

pub valued-sound : (n : ℕ) → Sound (valued_at n) (IsValued n)
unfolding valued_at
valued-sound n ts rest a e =
    let x = bind_ok (target_at n ts) _ _ e in
    let v = bind_ok (expression_at x.0.0.1 x.0.1) _ _ x.2 in
    let d = target-sound n ts x.0.1 x.0.0 x.1 in
    moved (λ l t. IsValued n ts l t) v.2 (record { inner = x.0.0.1; level = d.level; from = x.0.1; front = d.front; value = expression-sound x.0.0.1 x.0.1 v.0.1 v.0.0 v.1 })

valued-first : (n : ℕ) (x : Word) {ts rest : List Symbol} {e : Term} → IsExpression n ts rest e → Ends 3 rest → Yields (valued_at (suc n)) (Fixed LeftParen ∷ Name x ∷ Fixed Comma ∷ ts) rest (x, e)
unfolding valued_at
valued-first n x {ts} d ends = record { is = rw (target-first n x ts, (expression-complete d ends).is) }

-- a location and a number
pub record IsNumbered (n : ℕ) (ts rest : List Symbol) (v : Word × ℕ) : Type 0 where
  pub inner : ℕ
  pub level : n ≡ suc inner
  pub front : ts ≡ Fixed LeftParen ∷ Name v.0 ∷ Fixed Comma ∷ Number v.1 ∷ rest

pub constant-sound : (n : ℕ) → Sound (constant_at n) (IsNumbered n)
unfolding constant_at
constant-sound n ts rest a e =
    let x = bind_ok (target_at n ts) _ _ e in
    let v = bind_ok (number_at x.0.1) _ _ x.2 in
    let d = target-sound n ts x.0.1 x.0.0 x.1 in
    let b : ts ≡ Fixed LeftParen ∷ Name x.0.0.0 ∷ Fixed Comma ∷ x.0.1 = d.front in
    let c : x.0.1 ≡ Number v.0.0 ∷ v.0.1 = number-ok x.0.1 v.0.1 v.0.0 v.1 in
    moved (λ l t. IsNumbered n ts l t) v.2 (record { inner = x.0.0.1; level = d.level; front = (cc) })

constant-first : (n : ℕ) (x : Word) (v : ℕ) (rest : List Symbol) → constant_at (suc n) (Fixed LeftParen ∷ Name x ∷ Fixed Comma ∷ Number v ∷ rest) ≡ Ok ((x, v), rest)
unfolding constant_at number_at number_look
constant-first n x v rest = rw (target-first n x (Number v ∷ rest))

-- calls, by what they do

-- what stands behind the word of a call
abbrev Behind : Operation → ℕ → List Symbol → List Symbol → Action → Type 0
Behind c n ts rest a = IsCall n (Call c ∷ ts) rest a

-- where n is a level more than m, and the front is known
placed : (c : Operation) (n m : ℕ) (ts us rest : List Symbol) (a : Action) → n ≡ suc m → ts ≡ us → Behind c (suc m) us rest a → Behind c n ts rest a
placed c n m ts us rest a e f d =
    let P : ℕ → List Symbol → Type 0 = λ k l. Behind c k l rest a in
    subst (λ k. P k ts) (sym e) (subst (λ l. P (suc m) l) (sym f) d)

load-sound : (c : Operation) → effect_of c ≡ Loads → (n : ℕ) → Sound (load_at (accepted c) n) (Behind c n)
unfolding load_at
load-sound c k n ts rest a e =
    let x = bind_ok (located_at n ts) _ _ e in
    let o = bind_ok (closing_at (accepted c) x.0.1) _ _ x.2 in
    let d = located-sound n ts x.0.1 x.0.0 x.1 in
    moved (λ l t. Behind c n ts l t) o.2 (placed c n x.0.0.1 ts _ o.0.1 _ d.level d.front (call_load k (closing-sound (accepted c) x.0.1 o.0.1 o.0.0 o.1)))

store-sound : (c : Operation) → effect_of c ≡ Stores → (n : ℕ) → Sound (store_at (accepted c) n) (Behind c n)
unfolding store_at
store-sound c k n ts rest a e =
    let v = bind_ok (valued_at n ts) _ _ e in
    let o = bind_ok (closing_at (accepted c) v.0.1) _ _ v.2 in
    let d = valued-sound n ts v.0.1 v.0.0 v.1 in
    moved (λ l t. Behind c n ts l t) o.2 (placed c n d.inner ts _ o.0.1 _ d.level d.front (call_store k d.value (closing-sound (accepted c) v.0.1 o.0.1 o.0.0 o.1)))

exchange-sound : (c : Operation) → effect_of c ≡ Exchanges → (n : ℕ) → Sound (exchange_at (accepted c) n) (Behind c n)
unfolding exchange_at
exchange-sound c k n ts rest a e =
    let v = bind_ok (valued_at n ts) _ _ e in
    let o = bind_ok (closing_at (accepted c) v.0.1) _ _ v.2 in
    let d = valued-sound n ts v.0.1 v.0.0 v.1 in
    moved (λ l t. Behind c n ts l t) o.2 (placed c n d.inner ts _ o.0.1 _ d.level d.front (call_exchange k d.value (closing-sound (accepted c) v.0.1 o.0.1 o.0.0 o.1)))

modify-sound : (c : Operation) (f : Computation) → effect_of c ≡ Modifies f → (n : ℕ) → Sound (modify_at f (accepted c) n) (Behind c n)
unfolding modify_at
modify-sound c f k n ts rest a e =
    let v = bind_ok (constant_at n ts) _ _ e in
    let o = bind_ok (closing_at (accepted c) v.0.1) _ _ v.2 in
    let d = constant-sound n ts v.0.1 v.0.0 v.1 in
    moved (λ l t. Behind c n ts l t) o.2 (placed c n d.inner ts _ o.0.1 _ d.level d.front (call_modify k (closing-sound (accepted c) v.0.1 o.0.1 o.0.0 o.1)))

fence-sound : (c : Operation) → effect_of c ≡ Fences → (n : ℕ) → Sound (fence_at (accepted c) n) (Behind c n)
unfolding fence_at
fence-sound c k n ts rest a e =
    let m = bind_ok (open_at n ts) _ _ e in
    let o = bind_ok (last_order_at (accepted c) m.0.1) _ _ m.2 in
    let p = open-ok n m.0.0 ts m.0.1 m.1 in
    moved (λ l t. Behind c n ts l t) o.2 (placed c n m.0.0 ts _ o.0.1 _ p.0 p.1 (call_fence k (last_order-sound (accepted c) m.0.1 o.0.1 o.0.0 o.1)))

effect-sound : (c : Operation) (f : Effect) → effect_of c ≡ f → (n : ℕ) → Sound (effect_at f (accepted c) n) (Behind c n)
effect-sound c Loads k n ts rest a e = load-sound c k n ts rest a e
effect-sound c Stores k n ts rest a e = store-sound c k n ts rest a e
effect-sound c Exchanges k n ts rest a e = exchange-sound c k n ts rest a e
effect-sound c (Modifies f) k n ts rest a e = modify-sound c f k n ts rest a e
effect-sound c Fences k n ts rest a e = fence-sound c k n ts rest a e

pub operation-sound : (c : Operation) (n : ℕ) → Sound (operation_at c n) (Behind c n)
unfolding operation_at
operation-sound c n ts rest a e = effect-sound c (effect_of c) refl n ts rest a e

-- the call of a word has a value where the word's row says so

never_valued : (c d : Operation) (f : Effect) → effect_of d ≡ f → is_valued f ≡ false → d ≡ c → has_value c ≡ true → ⊥
never_valued c d f k lacks same h =
    let given : has_value d ≡ true = subst (λ (b : Operation). has_value b ≡ true) (sym same) h in
    let also : has_value d ≡ is_valued f = ap is_valued k in
    cc

called : (c : Operation) {n : ℕ} {us rest : List Symbol} {a : Action} → IsCall n us rest a → (ts : List Symbol) → us ≡ Call c ∷ ts → has_value c ≡ true → HasValue a
called c (call_load k o) ts e h = load_has
called c (call_store {c = d} k v o) ts e h = let same : d ≡ c = cc in absurd (never_valued c d Stores k refl same h)
called c (call_exchange k v o) ts e h = exchange_has
called c (call_modify k o) ts e h = modify_has
called c (call_fence {c = d} k o) ts e h = let same : d ≡ c = cc in absurd (never_valued c d Fences k refl same h)

value-sound : (left : ℕ) (c : Operation) (n : ℕ) → Sound (value_at left c n) (λ ts rest v. IsRight n (Call c ∷ ts) rest v)
unfolding value_at
value-sound left c n ts rest v e =
    elim (chosen (has_value c) _ _ _ e) [
      | inl g ↦
          let a = bind_ok (operation_at c n ts) _ _ g.1 in
          let d = operation-sound c n ts a.0.1 a.0.0 a.1 in
          moved (λ l t. IsRight n (Call c ∷ ts) l t) a.2 (right_call d (called c d ts refl g.0))
      | inr g ↦ let h = g.1 in absurd (cc)
    ]

pub right-sound : (n : ℕ) → Sound (right_at n) (IsRight n)
unfolding right_at computed_at plain_at
right-sound n ts rest v e =
    elim (cases_of (after Star ts) _ _ _ e) [
      | inl g ↦ elim (cases_of (call_word ts) _ _ _ g.1) [
        | inl h ↦
            let x = bind_ok (expression_at n ts) _ _ h.1 in
            moved (λ l t. IsRight n ts l t) x.2 (right_computed (expression-sound n ts x.0.1 x.0.0 x.1))
        | inr (c, was, f) ↦ subst (λ l. IsRight n l rest v) (sym (call_word-some ts c.1 c.0 was)) (value-sound (length ts) c.0 n c.1 rest v f)
      ]
      | inr (y, was, f) ↦
          let x = bind_ok (name_at y.1) _ _ f in
          let a : ts ≡ Fixed Star ∷ y.1 = after-some Star ts y.1 y.0 was in
          let b : y.1 ≡ Name x.0.0 ∷ x.0.1 = name-ok y.1 x.0.1 x.0.0 x.1 in
          let same : ts ≡ Fixed Star ∷ Name x.0.0 ∷ x.0.1 = cc in
          subst (λ l. IsRight n l rest v) (sym same) (moved (λ l t. IsRight n (Fixed Star ∷ Name x.0.0 ∷ x.0.1) l t) x.2 right_read)
    ]

-- Each takes a symbol.

pub call_shorter : {n : ℕ} {ts rest : List Symbol} {a : Action} → IsCall n ts rest a → length rest < length ts
call_shorter (call_load k o) = omega (arith, closing_shorter o)
call_shorter (call_store k d o) = omega (arith, level_shorter d, closing_shorter o)
call_shorter (call_exchange k d o) = omega (arith, level_shorter d, closing_shorter o)
call_shorter (call_modify k o) = omega (arith, closing_shorter o)
call_shorter (call_fence k o) = omega (arith, last_order_shorter o)

pub right_shorter : {n : ℕ} {ts rest : List Symbol} {v : Right} → IsRight n ts rest v → length rest < length ts
right_shorter (right_computed d) = level_shorter d
right_shorter right_read = omega arith
right_shorter (right_call d h) = call_shorter d

-- Completeness.

-- the word in front, and what reads behind it
pub record CallsFirst (n : ℕ) (ts rest : List Symbol) (a : Action) : Type 0 where
  pub word : Operation
  pub behind : List Symbol
  pub front : ts ≡ Call word ∷ behind
  pub reads : operation_at word n behind ≡ Ok (a, rest)

operation-by : (c : Operation) (f : Effect) → effect_of c ≡ f → (n : ℕ) (ts : List Symbol) → operation_at c n ts ≡ effect_at f (accepted c) n ts
unfolding operation_at
operation-by c f k n ts = ap (λ g. effect_at g (accepted c) n ts) k

load-first : (os : List Order) (n : ℕ) (x : Word) {ts rest : List Symbol} {o : Order} → IsClosing os ts rest o → load_at os (suc n) (Fixed LeftParen ∷ Name x ∷ ts) ≡ Ok (load x o, rest)
unfolding load_at
load-first os n x {ts} o = rw (located-first n x ts, (closing-first o).is)

store-first : (os : List Order) (n : ℕ) (x : Word) {ts us rest : List Symbol} {e : Term} {o : Order} → IsExpression n ts us e → IsClosing os us rest o →
    store_at os (suc n) (Fixed LeftParen ∷ Name x ∷ Fixed Comma ∷ ts) ≡ Ok (store x e o, rest)
unfolding store_at
store-first os n x d o = rw ((valued-first n x d (closing-ends o)).is, (closing-first o).is)

exchange-first : (os : List Order) (n : ℕ) (x : Word) {ts us rest : List Symbol} {e : Term} {o : Order} → IsExpression n ts us e → IsClosing os us rest o →
    exchange_at os (suc n) (Fixed LeftParen ∷ Name x ∷ Fixed Comma ∷ ts) ≡ Ok (exchange x e o, rest)
unfolding exchange_at
exchange-first os n x d o = rw ((valued-first n x d (closing-ends o)).is, (closing-first o).is)

modify-first : (os : List Order) (n : ℕ) (f : Computation) (x : Word) (v : ℕ) {ts rest : List Symbol} {o : Order} → IsClosing os ts rest o →
    modify_at f os (suc n) (Fixed LeftParen ∷ Name x ∷ Fixed Comma ∷ Number v ∷ ts) ≡ Ok (modify x f v o, rest)
unfolding modify_at
modify-first os n f x v {ts} o = rw (constant-first n x v ts, (closing-first o).is)

fence-first : (os : List Order) (n : ℕ) {ts rest : List Symbol} {o : Order} → IsLastOrder os ts rest o → fence_at os (suc n) (Fixed LeftParen ∷ ts) ≡ Ok (fence o, rest)
unfolding fence_at
fence-first os n {ts} o = rw (open-first n ts, (last_order-first o).is)

pub call-complete : {n : ℕ} {ts rest : List Symbol} {a : Action} → IsCall n ts rest a → CallsFirst n ts rest a
call-complete (call_load {n} {c} {x} {ts = ts} k o) = record { word = c; behind = Fixed LeftParen ∷ Name x ∷ ts; front = refl; reads = operation-by c Loads k (suc n) _ ∙ load-first (accepted c) n x o }
call-complete (call_store {n} {c} {x} {ts = ts} k d o) = record { word = c; behind = Fixed LeftParen ∷ Name x ∷ Fixed Comma ∷ ts; front = refl; reads = operation-by c Stores k (suc n) _ ∙ store-first (accepted c) n x d o }
call-complete (call_exchange {n} {c} {x} {ts = ts} k d o) = record { word = c; behind = Fixed LeftParen ∷ Name x ∷ Fixed Comma ∷ ts; front = refl; reads = operation-by c Exchanges k (suc n) _ ∙ exchange-first (accepted c) n x d o }
call-complete (call_modify {n} {v} {c} {f} {x} {ts = ts} k o) = record { word = c; behind = Fixed LeftParen ∷ Name x ∷ Fixed Comma ∷ Number v ∷ ts; front = refl; reads = operation-by c (Modifies f) k (suc n) _ ∙ modify-first (accepted c) n f x v o }
call-complete (call_fence {n} {c} {ts = ts} k o) = record { word = c; behind = Fixed LeftParen ∷ ts; front = refl; reads = operation-by c Fences k (suc n) _ ∙ fence-first (accepted c) n o }

-- the word of a call that has a value

valued_by : (c d : Operation) (f : Effect) → effect_of d ≡ f → is_valued f ≡ true → d ≡ c → has_value c ≡ true
valued_by c d f k has same = subst (λ (b : Operation). has_value b ≡ true) same (ap is_valued k ∙ has)

valued : {n : ℕ} {us rest : List Symbol} {a : Action} → IsCall n us rest a → HasValue a → (c : Operation) (ts : List Symbol) → us ≡ Call c ∷ ts → has_value c ≡ true
valued (call_load {c = d} k o) h c ts e = let same : d ≡ c = cc in valued_by c d Loads k refl same
valued (call_store k v o) h c ts e = elim h [ ]
valued (call_exchange {c = d} k v o) h c ts e = let same : d ≡ c = cc in valued_by c d Exchanges k refl same
valued (call_modify {c = d} {f} k o) h c ts e = let same : d ≡ c = cc in valued_by c d (Modifies f) k refl same
valued (call_fence k o) h c ts e = elim h [ ]

-- an expression begins with a name, a number, `!` or `(`
record IsOperandFirst (ts : List Symbol) : Type 0 where
  star : after Star ts ≡ None
  call : call_word ts ≡ None

mutual
  unfolding after call_word

  level-opens : {k n : ℕ} {ts rest : List Symbol} {a : Term} → IsLevel k n ts rest a → IsOperandFirst ts
  level-opens (level_unary d) = unary-opens d
  level-opens (level_tighter d) = level-opens d
  level-opens (level_joined d o e) = level-opens d

  unary-opens : {n : ℕ} {ts rest : List Symbol} {a : Term} → IsUnary n ts rest a → IsOperandFirst ts
  unary-opens (unary_denied d) = record { star = refl; call = refl }
  unary-opens (unary_paren d) = record { star = refl; call = refl }
  unary-opens unary_name = record { star = refl; call = refl }
  unary-opens unary_number = record { star = refl; call = refl }

-- no terminal is the word of a call
pub after-call : (t : Terminal) (c : Operation) (ts : List Symbol) → after t (Call c ∷ ts) ≡ None
unfolding after
after-call t c ts = refl

pub call_word-first : (c : Operation) (ts : List Symbol) → call_word (Call c ∷ ts) ≡ Some (c, ts)
unfolding call_word
call_word-first c ts = refl

right-called : (n : ℕ) (c : Operation) (us : List Symbol) {rest : List Symbol} {a : Action} → has_value c ≡ true → operation_at c n us ≡ Ok (a, rest) → Yields (right_at n) (Call c ∷ us) rest (value_of a)
unfolding right_at value_at
right-called n c us h e = record { is = rw (after-call Star c us, call_word-first c us, h, e) }

right-named : (n : ℕ) (x : Word) (rest : List Symbol) → Yields (right_at n) (Fixed Star ∷ Name x ∷ rest) rest (plain_read x)
unfolding right_at plain_at name_at
right-named n x rest = record { is = rw (after-first Star (Name x ∷ rest)) }

right-computed : (n : ℕ) {ts rest : List Symbol} {e : Term} → IsOperandFirst ts → Yields (expression_at n) ts rest e → Yields (right_at n) ts rest (computed e)
unfolding right_at computed_at
right-computed n o y = record { is = rw (o.star, o.call, y.is) }

pub right-complete : {n : ℕ} {ts rest : List Symbol} {v : Right} → IsRight n ts rest v → Ends 3 rest → Yields (right_at n) ts rest v
right-complete (right_computed {n} d) ends = right-computed n (level-opens d) (expression-complete d ends)
right-complete (right_read {n} {x} {rest}) ends = right-named n x rest
right-complete (right_call {n} {ts} {rest} {a} d h) ends =
    let f = call-complete d in
    subst (λ l. Yields (right_at n) l rest (value_of a)) (sym f.front) (right-called n f.word f.behind (valued d h f.word f.behind f.front) f.reads)
