-- Reading as functions on lists of symbols: one definition for each function of `Reader`.
-- The grammar does not rest on this file: it says what the private functions give, and proofs/ leads
-- from it to the grammar, in both directions.
use Rattle.std.specs.Prelude.{ℕ, List, [], ◌∷◌, ◌++◌, length, Bool, true, false, Some, None, Result, Ok, Err, ◌≡◌, ◌==◌, if◌then◌else◌, codes}
use Rattle.std.specs.Fmt.{decimal}
use Rattle.std.specs.List.{list_any}
use Rattle.std.specs.Str.{bytes_eq}
use Rattle.std.proofs.Common.{zero, suc}
use Rattle.descent.specs.Reading.{Read, Look, match_option, ◌>>=◌, required, repeated}
use Rattle.events.specs.contracts.event.OrderPartialEq.TheImpl.{ghosts as order_equality}
use Rattle.events.specs.declared.event.Order.{Order}
use Rattle.events.specs.declared.event.Order.TheVariants.{Sc}
use Rattle.conditions.specs.declared.place.Binding.{Binding}
use Rattle.conditions.specs.declared.place.Place.{Place}
use Rattle.conditions.specs.declared.place.Place.TheVariants.{Reg, Loc}
use Rattle.conditions.specs.declared.condition.Kind.{Kind}
use Rattle.conditions.specs.declared.condition.Kind.TheVariants as kinds
use Rattle.conditions.specs.Conditions.{Formula, truth, falsehood, equals, negation, conjunction, disjunction, implication, Condition}
use Rattle.litmus_syntax.specs.contracts.symbol.TerminalPartialEq.TheImpl.{ghosts}
use Rattle.litmus_tree.specs.declared.expression.Operator.{Operator}
use Rattle.litmus_tree.specs.declared.expression.Operator.TheVariants as operators
use Rattle.litmus_syntax.specs.declared.atomics.Operation.{Operation}
use Rattle.litmus_syntax.specs.declared.symbol.Symbol.{Symbol}
use Rattle.litmus_syntax.specs.declared.symbol.Symbol.TheVariants.{Fixed, Call, Name, Number, Word as head_word}
use Rattle.litmus_syntax.specs.declared.symbol.Terminal.{Terminal}
use Rattle.litmus_syntax.specs.declared.symbol.Terminal.TheVariants.{Int, AtomicInt, Volatile, If, Else, True, False, Exists, Forall, Not, Locations, LeftParen, RightParen, LeftBrace, RightBrace, LeftBracket, RightBracket, Semicolon, Colon, Comma, Assign, Star, Tilde, Bang, EqualEqual, BangEqual, AndAnd, OrOr, And, Or, Arrow}
use Rattle.litmus_syntax.specs.declared.syntax_fault.SyntaxFault.{SyntaxFault}
use Rattle.litmus_syntax.specs.declared.syntax_fault.SyntaxFault.TheVariants.{Syntax, BadOrder, TooDeep, NoMemory}
use Rattle.litmus_tree.specs.declared.tree.Computation.{Computation}
use Rattle.litmus_tree.specs.declared.tree.LocationKind.{LocationKind}
use Rattle.litmus_tree.specs.declared.tree.LocationKind.TheVariants.{Atomic, Plain}
use Rattle.litmus_tree.specs.declared.tree.Parameter.{Parameter}
use Rattle.litmus_syntax.specs.Drafts.{Listing, Written, is_parameter}
use Rattle.litmus_syntax.specs.Atomics.{orders, effect_of, accepted, has_value}
use Rattle.litmus_syntax.specs.declared.atomics.Effect.{Effect}
use Rattle.litmus_syntax.specs.declared.atomics.Effect.TheVariants.{Loads, Stores, Exchanges, Modifies, Fences}
use Rattle.litmus_syntax.specs.Symbols.{looked_up}
use Rattle.litmus_tree.specs.Tree.{Word, Term, number, held, denied, Action, load, store, exchange, modify, fence, Right, computed, plain_read, value_of, Declared, Step, empty, block, declare, assign, plain_write, perform, if_only, if_else, Steps, no_steps, followed, joined}

-- why there is no reading: `syntax n` where the symbols from the left can't be read on, and the last n of them are left
pub data Cause : Type 0 where
  syntax : (left : ℕ) → Cause
  deep : Cause
  misordered : Cause

abbrev pub Reading : Type 0 → Type 0
Reading A = Read Symbol Cause A

-- What a function returned, seen by view, and the symbols that it left are what reading gives, unless memory ran out.
abbrev pub Gives : {X A : Type 0} → (X → A) → Result X SyntaxFault → List Symbol → Reading A → Type 0
Gives view (Ok x) rest read = read ≡ Ok (view x, rest)
Gives view (Err NoMemory) rest read = Unit {0}
Gives view (Err (Syntax n)) rest read = read ≡ Err (syntax n)
Gives view (Err BadOrder) rest read = read ≡ Err misordered
Gives view (Err TooDeep) rest read = read ≡ Err deep

-- what is read, turned by f
abbrev pub turned : {A B : Type 0} → (A → B) → Reading A → Reading B
turned f read = read >>= λ x. Ok (f x.0, x.1)

-- reading stops in front of these symbols
abbrev pub stuck : {A : Type 0} → List Symbol → Reading A
stuck ts = Err (syntax (length ts))

-- single symbols

abbrev pub terminal_eq : Terminal → Terminal → Bool
terminal_eq a b = ghosts.eq a b

-- this terminal
unfoldable pub after : Terminal → List Symbol → Look Symbol (Unit {0})
after t [] = None
after t (Fixed u ∷ ts) = if terminal_eq u t then Some (tt, ts) else None
after t (s ∷ ts) = None

unfoldable pub expected : Terminal → List Symbol → Reading (Unit {0})
expected t ts = required (syntax (length ts)) (after t ts)

-- nothing of this terminal is read, and it does not come next
unfoldable pub unless : Terminal → List Symbol → Look Symbol (Unit {0})
unless t ts = match_option (after t ts) (Some (tt, ts)) (λ _. None)

unfoldable pub name_at : List Symbol → Reading Word
name_at (Name x ∷ ts) = Ok (x, ts)
name_at ts = stuck ts

unfoldable pub number_look : List Symbol → Look Symbol ℕ
number_look (Number n ∷ ts) = Some (n, ts)
number_look ts = None

unfoldable pub number_at : List Symbol → Reading ℕ
number_at ts = required (syntax (length ts)) (number_look ts)

-- nothing is read, and a name comes next
unfoldable pub before_name : List Symbol → Look Symbol (Unit {0})
before_name (Name x ∷ ts) = Some (tt, Name x ∷ ts)
before_name ts = None

-- the word of a call
unfoldable pub call_word : List Symbol → Look Symbol Operation
call_word (Call c ∷ ts) = Some (c, ts)
call_word ts = None

-- an opening parenthesis, and how deep its inside may nest
unfoldable pub opened : ℕ → List Symbol → Reading ℕ
opened zero ts = Err deep
opened (suc n) ts = Ok (n, ts)

unfoldable pub open_at : ℕ → List Symbol → Reading ℕ
open_at n ts = do
  y ← expected LeftParen ts
  opened n y.1

-- places and the initial state

unfoldable pub location_at : List Symbol → Reading Word
location_at ts = match_option (after LeftBracket ts) (name_at ts) (λ y. name_at y.1 >>= λ x. expected RightBracket x.1 >>= λ z. Ok (x.0, z.1))

-- what stands behind the number of a thread
unfoldable pub register_at : ℕ → List Symbol → Reading Place
register_at k ts = do
  y ← expected Colon ts
  x ← name_at y.1
  Ok (Reg k x.0, x.1)

unfoldable pub place_at : List Symbol → Reading Place
place_at ts = match_option (number_look ts) (location_at ts >>= λ x. Ok (Loc x.0, x.1)) (λ k. register_at k.0 k.1)

-- a place with no value
unfoldable pub bare : Place → List Symbol → Reading Binding
bare (Loc x) ts = Ok (record { place = Loc x; value = 0 }, ts)
bare (Reg k x) ts = stuck ts

unfoldable pub bound_at : Place → List Symbol → Reading Binding
bound_at p ts = match_option (after Assign ts) (bare p ts) (λ y. number_at y.1 >>= λ v. Ok (record { place = p; value = v.0 }, v.1))

unfoldable pub behind_type : List Symbol → List Symbol
behind_type ts = match_option (after Int ts) (match_option (after AtomicInt ts) ts (λ y. y.1)) (λ y. y.1)

unfoldable pub entry_at : List Symbol → Reading Binding
entry_at ts = do
  p ← place_at (behind_type ts)
  bound_at p.0 p.1

-- an entry ends here
unfoldable pub ends_entry : List Symbol → Bool
ends_entry (Fixed Semicolon ∷ ts) = true
ends_entry (Fixed RightBrace ∷ ts) = true
ends_entry ts = false

unfoldable pub entry_behind : List Binding → List Symbol → Reading (List Binding)
entry_behind bs ts = if ends_entry ts then Ok (bs, ts) else (entry_at ts >>= λ x. Ok (bs ++ x.0 ∷ [], x.1))

unfoldable pub entries_at : List Symbol → Reading (List Binding)
entries_at ts = do
  x ← entry_behind [] ts
  repeated (syntax 0) (after Semicolon) (λ _ bs us. entry_behind bs us) x.0 x.1

-- parameters

unfoldable pub kind_at : List Symbol → Reading LocationKind
kind_at ts = match_option (after AtomicInt ts) (expected Int ts >>= λ y. Ok (Plain, y.1)) (λ y. Ok (Atomic, y.1))

-- without the word volatile
unfoldable pub behind_volatile : List Symbol → List Symbol
behind_volatile ts = match_option (after Volatile ts) ts (λ y. y.1)

unfoldable pub parameter_behind : List Parameter → List Symbol → Reading Parameter
parameter_behind ps ts = do
  k ← kind_at (behind_volatile ts)
  z ← expected Star k.1
  x ← name_at z.1
  if is_parameter ps x.0 then stuck z.1 else Ok (record { name = x.0; kind = k.0 }, x.1)

unfoldable pub parameters_more : List Parameter → List Symbol → Reading (List Parameter)
parameters_more ps ts = do
  x ← parameter_behind ps ts
  Ok (ps ++ x.0 ∷ [], x.1)

unfoldable pub parameters_at : List Symbol → Reading (List Parameter)
parameters_at ts = do
  x ← parameters_more [] ts
  repeated (syntax 0) (after Comma) (λ _ ps us. parameters_more ps us) x.0 x.1

-- parameters and their closing parenthesis
unfoldable pub parameters_closed : List Symbol → Reading (List Parameter)
parameters_closed ts = do
  x ← parameters_at ts
  y ← expected RightParen x.1
  Ok (x.0, y.1)

unfoldable pub parameter_list_at : ℕ → List Symbol → Reading (List Parameter)
parameter_list_at n ts = do
  m ← open_at n ts
  match_option (after RightParen m.1) (parameters_closed m.1) (λ y. Ok ([], y.1))

-- expressions

-- this terminal, as an operator
abbrev pub sign : Terminal → Operator → List Symbol → Look Symbol Operator
sign t o ts = match_option (after t ts) None (λ y. Some (o, y.1))

-- the operator of a level
unfoldable pub operator_at : ℕ → List Symbol → Look Symbol Operator
operator_at zero ts = match_option (after EqualEqual ts) (sign BangEqual operators.Unequal ts) (λ y. Some (operators.Equal, y.1))
operator_at (suc zero) ts = sign AndAnd operators.Both ts
operator_at (suc (suc zero)) ts = sign OrOr operators.Either ts
operator_at k ts = None

-- what reads expressions and operands one deeper
pub record Terms : Type 0 where
  pub expression : List Symbol → Reading Term
  pub unary : List Symbol → Reading Term

unfoldable pub unary_with : Terms → List Symbol → Reading Term
unary_with r (Name x ∷ ts) = Ok (held x, ts)
unary_with r (Number v ∷ ts) = Ok (number v, ts)
unary_with r (Fixed Bang ∷ ts) = r.unary ts >>= λ a. Ok (denied a.0, a.1)
unary_with r (Fixed LeftParen ∷ ts) = r.expression ts >>= λ a. expected RightParen a.1 >>= λ y. Ok (a.0, y.1)
unary_with r ts = stuck ts

-- one more operand
abbrev pub next_operand : (List Symbol → Reading Term) → Operator → Term → List Symbol → Reading Term
next_operand item o a ts = item ts >>= λ y. Ok (joined o a y.0, y.1)

-- operands and what joins them, to the left
unfoldable pub operands : (List Symbol → Look Symbol Operator) → (List Symbol → Reading Term) → List Symbol → Reading Term
operands op item ts = item ts >>= λ x. repeated (syntax 0) op (next_operand item) x.0 x.1

unfoldable pub level_with : Terms → ℕ → List Symbol → Reading Term
level_with r zero ts = unary_with r ts
level_with r (suc k) ts = operands (operator_at k) (level_with r k) ts

-- what may nest n deep
unfoldable pub terms_below : ℕ → Terms
terms_below zero = record { expression = λ _. Err deep; unary = λ _. Err deep }
terms_below (suc n) = record { expression = level_with (terms_below n) 3; unary = unary_with (terms_below n) }

abbrev pub expression_at : ℕ → List Symbol → Reading Term
expression_at n ts = level_with (terms_below n) 3 ts

-- calls

abbrev pub is_among : List Order → Order → Bool
is_among os o = list_any (λ p. order_equality.eq p o) os

-- one of these orders
unfoldable pub order_at : List Order → List Symbol → Reading Order
order_at os ts = do
  x ← name_at ts
  o ← required (syntax (length ts)) (looked_up orders x.0)
  if is_among os o then Ok (o, x.1) else Err misordered

-- an order, and a closing parenthesis
unfoldable pub last_order_at : List Order → List Symbol → Reading Order
last_order_at os ts = do
  o ← order_at os ts
  y ← expected RightParen o.1
  Ok (o.0, y.1)

-- an opening parenthesis and a location, and how deep what follows may nest
unfoldable pub located_at : ℕ → List Symbol → Reading (Word × ℕ)
located_at n ts = do
  m ← open_at n ts
  x ← name_at m.1
  Ok ((x.0, m.0), x.1)

-- and a comma
unfoldable pub target_at : ℕ → List Symbol → Reading (Word × ℕ)
target_at n ts = do
  x ← located_at n ts
  y ← expected Comma x.1
  Ok (x.0, y.1)

-- and a value
unfoldable pub valued_at : ℕ → List Symbol → Reading (Word × Term)
valued_at n ts = do
  x ← target_at n ts
  e ← expression_at x.0.1 x.1
  Ok ((x.0.0, e.0), e.1)

-- or a number
unfoldable pub constant_at : ℕ → List Symbol → Reading (Word × ℕ)
constant_at n ts = do
  x ← target_at n ts
  v ← number_at x.1
  Ok ((x.0.0, v.0), v.1)

-- the end of a call that takes these orders: a closing parenthesis, and in front of it an order, if it takes any
unfoldable pub closing_at : List Order → List Symbol → Reading Order
closing_at os ts = if length os == 0 then (expected RightParen ts >>= λ y. Ok (Sc, y.1)) else (expected Comma ts >>= λ y. last_order_at os y.1)

-- what stands behind the word of a call that takes these orders

unfoldable pub load_at : List Order → ℕ → List Symbol → Reading Action
load_at os n ts = do
  x ← located_at n ts
  o ← closing_at os x.1
  Ok (load x.0.0 o.0, o.1)

unfoldable pub store_at : List Order → ℕ → List Symbol → Reading Action
store_at os n ts = do
  v ← valued_at n ts
  o ← closing_at os v.1
  Ok (store v.0.0 v.0.1 o.0, o.1)

unfoldable pub exchange_at : List Order → ℕ → List Symbol → Reading Action
exchange_at os n ts = do
  v ← valued_at n ts
  o ← closing_at os v.1
  Ok (exchange v.0.0 v.0.1 o.0, o.1)

unfoldable pub modify_at : Computation → List Order → ℕ → List Symbol → Reading Action
modify_at f os n ts = do
  v ← constant_at n ts
  o ← closing_at os v.1
  Ok (modify v.0.0 f v.0.1 o.0, o.1)

unfoldable pub fence_at : List Order → ℕ → List Symbol → Reading Action
fence_at os n ts = do
  m ← open_at n ts
  o ← last_order_at os m.1
  Ok (fence o.0, o.1)

abbrev pub effect_at : Effect → List Order → ℕ → List Symbol → Reading Action
effect_at Loads os n ts = load_at os n ts
effect_at Stores os n ts = store_at os n ts
effect_at Exchanges os n ts = exchange_at os n ts
effect_at (Modifies f) os n ts = modify_at f os n ts
effect_at Fences os n ts = fence_at os n ts

unfoldable pub operation_at : Operation → ℕ → List Symbol → Reading Action
operation_at c n ts = effect_at (effect_of c) (accepted c) n ts

-- a call that has a value, behind its word; with its word so many symbols are left
unfoldable pub value_at : (left : ℕ) → Operation → ℕ → List Symbol → Reading Right
value_at left c n ts = if has_value c then (operation_at c n ts >>= λ a. Ok (value_of a.0, a.1)) else Err (syntax left)

unfoldable pub computed_at : ℕ → List Symbol → Reading Right
computed_at n ts = expression_at n ts >>= λ e. Ok (computed e.0, e.1)

unfoldable pub plain_at : List Symbol → Reading Right
plain_at ts = name_at ts >>= λ x. Ok (plain_read x.0, x.1)

unfoldable pub right_at : ℕ → List Symbol → Reading Right
right_at n ts = match_option (after Star ts) (match_option (call_word ts) (computed_at n ts) (λ c. value_at (length ts) c.0 n c.1)) (λ y. plain_at y.1)

-- statements

unfoldable pub declarator_at : ℕ → List Symbol → Reading Declared
declarator_at n ts = name_at ts >>= λ x. match_option (after Assign x.1) (Ok (record { register = x.0; value = None }, x.1)) (λ y. right_at n y.1 >>= λ v. Ok (record { register = x.0; value = Some v.0 }, v.1))

unfoldable pub declarators_more : ℕ → List Declared → List Symbol → Reading (List Declared)
declarators_more n ds ts = do
  d ← declarator_at n ts
  Ok (ds ++ d.0 ∷ [], d.1)

unfoldable pub declarators_at : ℕ → List Symbol → Reading (List Declared)
declarators_at n ts = do
  x ← declarators_more n [] ts
  repeated (syntax 0) (after Comma) (λ _ ds us. declarators_more n ds us) x.0 x.1

unfoldable pub assignment_at : ℕ → List Symbol → Reading Step
assignment_at n ts = do
  x ← name_at ts
  y ← expected Assign x.1
  v ← right_at n y.1
  Ok (assign x.0 v.0, v.1)

-- behind the star
unfoldable pub write_at : ℕ → List Symbol → Reading Step
write_at n ts = do
  x ← name_at ts
  y ← expected Assign x.1
  e ← expression_at n y.1
  Ok (plain_write x.0 e.0, e.1)

unfoldable pub declaration_at : ℕ → List Symbol → Reading Step
declaration_at n ts = do
  ds ← declarators_at n ts
  Ok (declare ds.0, ds.1)

unfoldable pub performed_at : ℕ → List Symbol → Reading Step
performed_at n ts = match_option (call_word ts) (stuck ts) (λ c. operation_at c.0 n c.1 >>= λ a. Ok (perform a.0, a.1))

-- a statement without its semicolon
unfoldable pub simple_at : ℕ → List Symbol → Reading Step
simple_at n ts = match_option (after Int ts) (match_option (after Star ts) (match_option (before_name ts) (performed_at n ts) (λ y. assignment_at n y.1)) (λ y. write_at n y.1)) (λ y. declaration_at n y.1)

unfoldable pub closed_at : ℕ → List Symbol → Reading Step
closed_at n ts = do
  s ← simple_at n ts
  y ← expected Semicolon s.1
  Ok (s.0, y.1)

-- what reads one deeper
pub record Inside : Type 0 where
  pub expression : List Symbol → Reading Term
  pub statement : List Symbol → Reading Step
  pub statements : List Symbol → Reading Steps

-- what stands behind an if's first arm
unfoldable pub else_with : Inside → Term → Step → List Symbol → Reading Step
else_with r c a ts = match_option (after Else ts) (Ok (if_only c a, ts)) (λ y. r.statement y.1 >>= λ b. Ok (if_else c a b.0, b.1))

-- an expression and a closing parenthesis
unfoldable pub tested_at : ℕ → List Symbol → Reading Term
tested_at n ts = expression_at n ts >>= λ c. expected RightParen c.1 >>= λ y. Ok (c.0, y.1)

-- behind the word if
unfoldable pub if_with : Inside → List Symbol → Reading Step
if_with r ts = do
  x ← expected LeftParen ts
  c ← r.expression x.1
  y ← expected RightParen c.1
  a ← r.statement y.1
  else_with r c.0 a.0 a.1

unfoldable pub block_with : Inside → List Symbol → Reading Step
block_with r ts = do
  ss ← r.statements ts
  Ok (block ss.0, ss.1)

unfoldable pub step_with : Inside → ℕ → List Symbol → Reading Step
step_with r n ts = match_option (after Semicolon ts) (match_option (after LeftBrace ts) (match_option (after If ts) (closed_at n ts) (λ y. if_with r y.1)) (λ y. block_with r y.1)) (λ y. Ok (empty, y.1))

unfoldable pub steps_more : Inside → ℕ → Unit {0} → Steps → List Symbol → Reading Steps
steps_more r n _ ss ts = do
  s ← step_with r n ts
  Ok (followed ss s.0, s.1)

-- statements up to a brace, and the brace
unfoldable pub steps_with : Inside → ℕ → List Symbol → Reading Steps
steps_with r n ts = do
  x ← repeated (syntax 0) (unless RightBrace) (steps_more r n) no_steps ts
  y ← expected RightBrace x.1
  Ok (x.0, y.1)

-- what may nest n deep
unfoldable pub inside : ℕ → Inside
inside zero = record { expression = λ _. Err deep; statement = λ _. Err deep; statements = λ _. Err deep }
inside (suc n) = record { expression = expression_at n; statement = step_with (inside n) n; statements = steps_with (inside n) n }

abbrev pub step_at : ℕ → List Symbol → Reading Step
step_at n ts = step_with (inside n) n ts

abbrev pub steps_at : ℕ → List Symbol → Reading Steps
steps_at n ts = steps_with (inside n) n ts

-- threads

-- the name of a thread is P and its number
abbrev pub names_thread : Word → ℕ → Bool
names_thread x k = bytes_eq x (codes "P" ++ decimal k)

unfoldable pub thread_name_at : ℕ → List Symbol → Reading (Unit {0})
thread_name_at k ts = do
  x ← name_at ts
  if names_thread x.0 k then Ok (tt, x.1) else stuck ts

unfoldable pub thread_at : ℕ → ℕ → List Symbol → Reading Listing
thread_at n k ts = do
  y ← thread_name_at k ts
  ps ← parameter_list_at n y.1
  z ← expected LeftBrace ps.1
  ss ← steps_at n z.1
  Ok (record { parameters = ps.0; steps = ss.0 }, ss.1)

unfoldable pub threads_more : ℕ → Unit {0} → List Listing → List Symbol → Reading (List Listing)
threads_more n _ bs ts = do
  b ← thread_at n (length bs) ts
  Ok (bs ++ b.0 ∷ [], b.1)

unfoldable pub threads_at : ℕ → List Symbol → Reading (List Listing)
threads_at n ts = do
  x ← threads_more n tt [] ts
  repeated (syntax 0) before_name (threads_more n) x.0 x.1

-- listed places

-- a place ends here
unfoldable pub ends_place : List Symbol → Bool
ends_place (Fixed Semicolon ∷ ts) = true
ends_place (Fixed RightBracket ∷ ts) = true
ends_place ts = false

unfoldable pub place_behind : List Place → List Symbol → Reading (List Place)
place_behind ps ts = if ends_place ts then Ok (ps, ts) else (place_at ts >>= λ x. Ok (ps ++ x.0 ∷ [], x.1))

unfoldable pub places_at : List Symbol → Reading (List Place)
places_at ts = do
  x ← place_behind [] ts
  repeated (syntax 0) (after Semicolon) (λ _ ps us. place_behind ps us) x.0 x.1

-- behind the word locations
unfoldable pub bracketed_at : List Symbol → Reading (List Place)
bracketed_at ts = do
  x ← expected LeftBracket ts
  ps ← places_at x.1
  y ← expected RightBracket ps.1
  Ok (ps.0, y.1)

unfoldable pub listed_at : List Symbol → Reading (List Place)
listed_at ts = match_option (after Locations ts) (Ok ([], ts)) (λ y. bracketed_at y.1)

-- conditions

-- a place with its value
unfoldable pub equation_at : List Symbol → Reading Formula
equation_at ts = do
  p ← place_at ts
  y ← expected Assign p.1
  v ← number_at y.1
  Ok (equals p.0 v.0, v.1)

-- what reads one deeper
pub record Propositions : Type 0 where
  pub proposition : List Symbol → Reading Formula
  pub atomic : List Symbol → Reading Formula

-- `~` or `not`
unfoldable pub denial : List Symbol → Look Symbol (Unit {0})
denial ts = match_option (after Tilde ts) (after Not ts) (λ y. Some (tt, y.1))

-- a word, or a place with its value
unfoldable pub plain_atomic_at : List Symbol → Reading Formula
plain_atomic_at ts = match_option (after True ts) (match_option (after False ts) (equation_at ts) (λ y. Ok (falsehood, y.1))) (λ y. Ok (truth, y.1))

unfoldable pub denied_with : Propositions → List Symbol → Reading Formula
denied_with r ts = r.atomic ts >>= λ a. Ok (negation a.0, a.1)

unfoldable pub enclosed_with : Propositions → List Symbol → Reading Formula
enclosed_with r ts = r.proposition ts >>= λ a. expected RightParen a.1 >>= λ z. Ok (a.0, z.1)

unfoldable pub atomic_with : Propositions → List Symbol → Reading Formula
atomic_with r ts = match_option (denial ts) (match_option (after LeftParen ts) (plain_atomic_at ts) (λ y. enclosed_with r y.1)) (λ y. denied_with r y.1)

unfoldable pub conjunction_more : Propositions → Unit {0} → Formula → List Symbol → Reading Formula
conjunction_more r _ a ts = do
  b ← atomic_with r ts
  Ok (conjunction a b.0, b.1)

unfoldable pub conjunction_with : Propositions → List Symbol → Reading Formula
conjunction_with r ts = do
  a ← atomic_with r ts
  repeated (syntax 0) (after And) (conjunction_more r) a.0 a.1

unfoldable pub or_more : Propositions → Unit {0} → Formula → List Symbol → Reading Formula
or_more r _ a ts = do
  b ← conjunction_with r ts
  Ok (disjunction a b.0, b.1)

unfoldable pub or_with : Propositions → List Symbol → Reading Formula
or_with r ts = do
  a ← conjunction_with r ts
  repeated (syntax 0) (after Or) (or_more r) a.0 a.1

unfoldable pub proposition_with : Propositions → List Symbol → Reading Formula
proposition_with r ts = or_with r ts >>= λ a. match_option (after Arrow a.1) (Ok (a.0, a.1)) (λ y. r.proposition y.1 >>= λ b. Ok (implication a.0 b.0, b.1))

-- what may nest n deep
unfoldable pub propositions_below : ℕ → Propositions
propositions_below zero = record { proposition = λ _. Err deep; atomic = λ _. Err deep }
propositions_below (suc n) = record { proposition = proposition_with (propositions_below n); atomic = atomic_with (propositions_below n) }

unfoldable pub kind_of_at : List Symbol → Reading Kind
kind_of_at ts = match_option (after Forall ts) (match_option (denial ts) (expected Exists ts >>= λ y. Ok (kinds.Exists, y.1)) (λ x. expected Exists x.1 >>= λ y. Ok (kinds.NotExists, y.1))) (λ y. Ok (kinds.Forall, y.1))

unfoldable pub condition_at : ℕ → List Symbol → Reading Condition
condition_at n ts = do
  k ← kind_of_at ts
  a ← proposition_with (propositions_below n) k.1
  Ok (record { kind = k.0; formula = a.0 }, a.1)

-- tests

unfoldable pub word_at : List Symbol → Reading Word
word_at (head_word x ∷ ts) = Ok (x, ts)
word_at ts = stuck ts

unfoldable pub language_at : List Symbol → Reading (Unit {0})
language_at ts = do
  x ← word_at ts
  if bytes_eq x.0 (codes "C") then Ok (tt, x.1) else stuck ts

unfoldable pub end_at : List Symbol → Reading (Unit {0})
end_at [] = Ok (tt, [])
end_at (s ∷ ts) = stuck (s ∷ ts)

-- the head of a test, with its initial state
unfoldable pub initial_at : List Symbol → Reading (List Binding)
initial_at ts = do
  y ← expected LeftBrace ts
  bs ← entries_at y.1
  z ← expected RightBrace bs.1
  Ok (bs.0, z.1)

unfoldable pub test_at : ℕ → List Symbol → Reading Written
test_at n ts = do
  l ← language_at ts
  x ← word_at l.1
  bs ← initial_at x.1
  ps ← threads_at n bs.1
  qs ← listed_at ps.1
  c ← condition_at n qs.1
  e ← end_at c.1
  Ok (record { name = x.0; entries = bs.0; threads = ps.0; listed = qs.0; condition = c.0 }, e.1)
