-- Reading as functions on lists of symbols: one definition for each function of `Reader`.
-- The grammar does not rest on this file: it says what the private functions give, and proofs/ leads
-- from it to the grammar, in both directions.
use Rattle.std.specs.Prelude.{ℕ, List, [], ◌∷◌, ◌++◌, length, Bool, true, false, Option, Some, None, Result, Ok, Err, ◌≡◌, if◌then◌else◌}
use Rattle.std.proofs.Common.{zero, suc}
use Rattle.descent.specs.Reading.{Read, Look, match_option, ◌>>=◌, required, repeated}
use Rattle.cat_syntax.specs.contracts.symbol.TerminalPartialEq.TheImpl.{ghosts}
use Rattle.cat_syntax.specs.declared.syntax_fault.SyntaxFault.{SyntaxFault}
use Rattle.cat_syntax.specs.declared.syntax_fault.SyntaxFault.TheVariants.{Unexpected, BoundTwice, RecursiveFunction, TooDeep, NoMemory}
use Rattle.cat_tree.specs.declared.node.Infix.{Infix}
use Rattle.cat_tree.specs.declared.node.Infix.TheVariants.{Union, Sequence, Difference, Intersection, Product}
use Rattle.cat_tree.specs.declared.node.Sign.{Sign}
use Rattle.cat_tree.specs.declared.node.Sign.TheVariants as signs
use Rattle.cat_tree.specs.Terms.{terms_of, applied as sign_applied}
use Rattle.cat_syntax.specs.declared.operator.Enclosure.{Enclosure}
use Rattle.cat_syntax.specs.declared.operator.Postfix.{Postfix}
use Rattle.cat_syntax.specs.declared.operator.Postfix.TheVariants as postfixes
use Rattle.cat_syntax.specs.declared.symbol.Symbol.{Symbol}
use Rattle.cat_syntax.specs.declared.symbol.Symbol.TheVariants.{Fixed, Name, Quoted}
use Rattle.cat_syntax.specs.declared.symbol.Terminal.{Terminal}
use Rattle.cat_syntax.specs.declared.symbol.Terminal.TheVariants.{Let, Rec, And, Acyclic, Irreflexive, Empty, As, Flag, Show, Unshow, Include, Comma, Equals, Domain, Range, Underscore, Zero, LeftParen, RightParen, LeftBracket, RightBracket, LeftBrace, RightBrace, Bar, Semicolon, Backslash, Ampersand, Star, Tilde, Plus, Question, Inverse}
use Rattle.cat_tree.specs.declared.tree.CheckKind.{CheckKind}
use Rattle.cat_tree.specs.declared.tree.CheckKind.TheVariants as kinds
use Rattle.cat_syntax.specs.Symbols.{is_name}
use Rattle.cat_tree.specs.Tree.{Defined, Bound, Shown, Clause, bind, bind_recursively, check, include, show, unshow, File, Word, Term, plus, star, optional, inverse, complement, domain, range, identity, name, empty_relation, empty_set, universe, call}
use Rattle.cat_syntax.specs.Grammar.{joined, begins_operand}
use Rattle.cat_syntax.specs.Items.{is_among, names_defined, names_bound}

-- why reading stopped, and the symbols that were left: it is about the first of them, or about their end
abbrev pub Stop : Type 0
Stop = SyntaxFault × List Symbol

-- a value and the symbols behind it, or where reading stopped
abbrev pub Reading : Type 0 → Type 0
Reading A = Read Symbol Stop A

-- where turns would be cut short, which they never are
abbrev pub cut : Stop
cut = (Unexpected, [])

-- the fault is want of memory, or else P
abbrev pub OrNoMemory : SyntaxFault → Type 0 → Type 0
OrNoMemory NoMemory P = Unit {0}
OrNoMemory _ P = P

-- What a function returned, seen by view, and the symbols that it left are what reading gives, at a fault too, unless memory ran out.
abbrev pub Gives : {X A : Type 0} → (X → A) → Result X SyntaxFault → List Symbol → Reading A → Type 0
Gives view (Ok x) rest read = read ≡ Ok (view x, rest)
Gives view (Err e) rest read = OrNoMemory e (read ≡ Err (e, rest))

-- What a function took, if it took something.
abbrev pub Takes : {A : Type 0} → Option A → List Symbol → List Symbol → Look Symbol A → Type 0
Takes None old rest look = (look ≡ None) × (rest ≡ old)
Takes (Some x) old rest look = look ≡ Some (x, rest)

-- single symbols

abbrev pub terminal_eq : Terminal → Terminal → Bool
terminal_eq a b = ghosts.eq a b

-- this terminal
unfoldable pub after : Terminal → List Symbol → Look Symbol (Unit {0})
after t [] = None
after t (Fixed u ∷ ts) = if terminal_eq u t then Some (tt, ts) else None
after t (s ∷ ts) = None

unfoldable pub expected : Terminal → List Symbol → Reading (Unit {0})
expected t ts = required (Unexpected, ts) (after t ts)

unfoldable pub name_at : List Symbol → Reading Word
name_at (Name x ∷ ts) = Ok (x, ts)
name_at ts = Err (Unexpected, ts)

-- one more of a list; what comes may rest on those before it
abbrev pub push_item : {A : Type 0} → (List A → List Symbol → Reading A) → Unit {0} → List A → List Symbol → Reading (List A)
push_item item _ xs ts = item xs ts >>= λ y. Ok (xs ++ y.0 ∷ [], y.1)

-- x {separator x}
unfoldable pub separated : {A : Type 0} → Terminal → (List A → List Symbol → Reading A) → List Symbol → Reading (List A)
separated separator item ts = push_item item tt [] ts >>= λ x. repeated cut (after separator) (push_item item) x.0 x.1

-- this terminal, as an operator
abbrev pub sign : Terminal → Infix → List Symbol → Look Symbol Infix
sign t o ts = match_option (after t ts) None (λ y. Some (o, y.1))

-- the operator of a level
unfoldable pub infix_at : ℕ → List Symbol → Look Symbol Infix
infix_at zero ts = sign Star Product ts
infix_at (suc zero) ts = sign Ampersand Intersection ts
infix_at (suc (suc zero)) ts = sign Backslash Difference ts
infix_at (suc (suc (suc zero))) ts = sign Semicolon Sequence ts
infix_at (suc (suc (suc (suc zero)))) ts = sign Bar Union ts
infix_at k ts = None

-- whether the operator of a level associates to the left
unfoldable pub associates_left : ℕ → Bool
associates_left zero = true
associates_left (suc (suc zero)) = true
associates_left k = false

-- an operand begins with this terminal, whatever follows it
abbrev pub opens_operand : Terminal → Bool
opens_operand Domain = true
opens_operand Range = true
opens_operand Underscore = true
opens_operand Zero = true
opens_operand LeftParen = true
opens_operand LeftBracket = true
opens_operand LeftBrace = true
opens_operand t = false

unfoldable pub postfix_at : List Symbol → Look Symbol Postfix
postfix_at (Fixed Plus ∷ ts) = Some (postfixes.Plus, ts)
postfix_at (Fixed Star ∷ ts) = if begins_operand ts then None else Some (postfixes.Star, ts)
postfix_at (Fixed Question ∷ ts) = Some (postfixes.Optional, ts)
postfix_at (Fixed Inverse ∷ ts) = Some (postfixes.Inverse, ts)
postfix_at ts = None

abbrev pub applied : Postfix → Term → Term
applied postfixes.Plus = plus
applied postfixes.Star = star
applied postfixes.Optional = optional
applied postfixes.Inverse = inverse

-- Operators that associate to the right: an operand, and what stands behind it. No more than k operands are read.
unfoldable pub chain_right : (List Symbol → Look Symbol Infix) → (List Symbol → Reading Term) → ℕ → List Symbol → Reading Term
chain_right op item zero ts = Err cut
chain_right op item (suc k) ts = item ts >>= λ x. match_option (op x.1) (Ok (x.0, x.1)) (λ o. chain_right op item k o.1 >>= λ y. Ok (joined o.0 x.0 y.0, y.1))

-- each operand takes a symbol
unfoldable pub right : (List Symbol → Look Symbol Infix) → (List Symbol → Reading Term) → List Symbol → Reading Term
right op item ts = chain_right op item (suc (length ts)) ts

-- one more operand
abbrev pub next_operand : (List Symbol → Reading Term) → Infix → Term → List Symbol → Reading Term
next_operand item o a ts = item ts >>= λ y. Ok (joined o a y.0, y.1)

-- Operators that associate to the left.
unfoldable pub left : (List Symbol → Look Symbol Infix) → (List Symbol → Reading Term) → List Symbol → Reading Term
left op item ts = item ts >>= λ x. repeated cut op (next_operand item) x.0 x.1

-- The levels. `Inner` reads what nests one deeper, where the symbols that open it stand first in the former list.

pub record Inner : Type 0 where
  pub level : List Symbol → List Symbol → Reading Term
  pub unary : List Symbol → List Symbol → Reading Term

-- an expression between two signs
unfoldable pub enclosed_with : Inner → Terminal → Terminal → List Symbol → Reading Term
enclosed_with r opening closing ts = do
  x ← expected opening ts
  a ← r.level ts x.1
  y ← expected closing a.1
  Ok (a.0, y.1)

-- the arguments of a call
unfoldable pub arguments_with : Inner → List Symbol → Reading (List Term)
arguments_with r ts = do
  x ← expected LeftParen ts
  as' ← separated Comma (λ _. r.level ts) x.1
  y ← expected RightParen as'.1
  Ok (as'.0, y.1)

-- arguments come next
unfoldable pub opens_arguments : List Symbol → Bool
opens_arguments (Fixed LeftParen ∷ ts) = true
opens_arguments ts = false

-- a name comes next, with arguments or parameters behind it
unfoldable pub begins_call : List Symbol → Bool
begins_call (Name x ∷ ts) = opens_arguments ts
begins_call ts = false

unfoldable pub call_with : Inner → List Symbol → Reading Term
call_with r ts = do
  x ← name_at ts
  as' ← arguments_with r x.1
  Ok (call x.0 (terms_of as'.0), as'.1)

-- what a sign makes of a term, if one stands there
abbrev pub signed : Option Sign → Term → Term
signed None a = a
signed (Some s) a = sign_applied s a

abbrev pub parentheses : Option Sign → Enclosure
parentheses s = record { opening = LeftParen; closing = RightParen; sign = s }

abbrev pub brackets : Enclosure
brackets = record { opening = LeftBracket; closing = RightBracket; sign = Some signs.Identity }

-- what stands around the expression that comes next, and the symbols from its opening sign on
unfoldable pub enclosure_at : List Symbol → Look Symbol Enclosure
enclosure_at (Fixed LeftParen ∷ ts) = Some (parentheses None, Fixed LeftParen ∷ ts)
enclosure_at (Fixed LeftBracket ∷ ts) = Some (brackets, Fixed LeftBracket ∷ ts)
enclosure_at (Fixed Domain ∷ ts) = Some (parentheses (Some signs.Domain), ts)
enclosure_at (Fixed Range ∷ ts) = Some (parentheses (Some signs.Range), ts)
enclosure_at ts = None

-- a leaf of a tree
unfoldable pub leaf_at : List Symbol → Reading Term
leaf_at (Name x ∷ ts) = Ok (name x, ts)
leaf_at (Fixed Underscore ∷ ts) = Ok (universe, ts)
leaf_at (Fixed Zero ∷ ts) = Ok (empty_relation, ts)
leaf_at (Fixed LeftBrace ∷ ts) = expected RightBrace ts >>= λ y. Ok (empty_set, y.1)
leaf_at ts = Err (Unexpected, ts)

unfoldable pub primary_with : Inner → List Symbol → Reading Term
primary_with r (Name x ∷ ts) = if opens_arguments ts then (arguments_with r ts >>= λ y. Ok (call x (terms_of y.0), y.1)) else Ok (name x, ts)
primary_with r (Fixed Underscore ∷ ts) = Ok (universe, ts)
primary_with r (Fixed Zero ∷ ts) = Ok (empty_relation, ts)
primary_with r (Fixed LeftBrace ∷ ts) = expected RightBrace ts >>= λ y. Ok (empty_set, y.1)
primary_with r (Fixed LeftParen ∷ ts) = enclosed_with r LeftParen RightParen (Fixed LeftParen ∷ ts)
primary_with r (Fixed LeftBracket ∷ ts) = enclosed_with r LeftBracket RightBracket (Fixed LeftBracket ∷ ts) >>= λ x. Ok (identity x.0, x.1)
primary_with r (Fixed Domain ∷ ts) = enclosed_with r LeftParen RightParen ts >>= λ x. Ok (domain x.0, x.1)
primary_with r (Fixed Range ∷ ts) = enclosed_with r LeftParen RightParen ts >>= λ x. Ok (range x.0, x.1)
primary_with r ts = Err (Unexpected, ts)

abbrev pub applied_at : Postfix → Term → List Symbol → Reading Term
applied_at o a ts = Ok (applied o a, ts)

unfoldable pub postfix_with : Inner → List Symbol → Reading Term
postfix_with r ts = primary_with r ts >>= λ x. repeated cut postfix_at applied_at x.0 x.1

unfoldable pub unary_with : Inner → List Symbol → Reading Term
unary_with r (Fixed Tilde ∷ ts) = r.unary (Fixed Tilde ∷ ts) ts >>= λ x. Ok (complement x.0, x.1)
unary_with r ts = postfix_with r ts

unfoldable pub level_with : Inner → ℕ → List Symbol → Reading Term
level_with r zero ts = unary_with r ts
level_with r (suc k) ts = if associates_left k then left (infix_at k) (level_with r k) ts else right (infix_at k) (level_with r k) ts

-- what may nest n deep
unfoldable pub below : ℕ → Inner
below zero = record { level = λ at _. Err (TooDeep, at); unary = λ at _. Err (TooDeep, at) }
below (suc n) = record { level = λ _. level_with (below n) 5; unary = λ _. unary_with (below n) }

-- a sign, and how deep may nest what stands behind it
unfoldable pub opened : ℕ → Terminal → List Symbol → Reading ℕ
opened zero t ts = match_option (after t ts) (Err (Unexpected, ts)) (λ _. Err (TooDeep, ts))
opened (suc n) t ts = match_option (after t ts) (Err (Unexpected, ts)) (λ y. Ok (n, y.1))

-- items

unfoldable pub expression_at : List Symbol → Reading Term
expression_at ts = level_with (below 64) 5 ts

unfoldable pub alias_at : List Symbol → Reading (Option Word)
alias_at ts = match_option (after As ts) (Ok (None, ts)) (λ y. name_at y.1 >>= λ x. Ok (Some x.0, x.1))

-- the name that comes next
unfoldable pub next_name : List Symbol → Option Word
next_name (Name x ∷ ts) = Some x
next_name ts = None

-- the next symbol is one of these names
abbrev pub repeats : List Word → List Symbol → Bool
repeats xs ts = match_option (next_name ts) false (is_among xs)

-- a name, where it doesn't stand already
unfoldable pub name_unless : (repeated : Bool) → List Symbol → Reading Word
name_unless repeated ts = if repeated then Err (BoundTwice, ts) else name_at ts

-- a name that stands for a value, where it doesn't stand already
unfoldable pub value_name_unless : (repeated : Bool) → List Symbol → Reading Word
value_name_unless repeated ts = if repeated then Err (BoundTwice, ts) else (if begins_call ts then Err (RecursiveFunction, ts) else name_at ts)

abbrev pub new_name_at : List Word → List Symbol → Reading Word
new_name_at xs ts = name_unless (repeats xs ts) ts

-- parameters in parentheses, if there are any
unfoldable pub parameters_at : List Symbol → Reading (List Word)
parameters_at ts = match_option (after LeftParen ts) (Ok ([], ts)) (λ y. separated Comma new_name_at y.1 >>= λ x. expected RightParen x.1 >>= λ z. Ok (x.0, z.1))

unfoldable pub definition_at : List Defined → List Symbol → Reading Defined
definition_at ds ts = do
  x ← new_name_at (names_defined ds) ts
  ps ← parameters_at x.1
  y ← expected Equals ps.1
  a ← expression_at y.1
  Ok (record { name = x.0; parameters = ps.0; value = a.0 }, a.1)

unfoldable pub binding_at : List Bound → List Symbol → Reading Bound
binding_at bs ts = do
  x ← value_name_unless (repeats (names_bound bs) ts) ts
  y ← expected Equals x.1
  a ← expression_at y.1
  Ok (record { name = x.0; value = a.0 }, a.1)

-- what stands behind `let`
unfoldable pub group_at : List Symbol → Reading Clause
group_at ts = match_option (after Rec ts) (separated And definition_at ts >>= λ x. Ok (bind x.0, x.1)) (λ y. separated And binding_at y.1 >>= λ x. Ok (bind_recursively x.0, x.1))

unfoldable pub element_at : List Symbol → Reading Shown
element_at ts = do
  a ← expression_at ts
  x ← alias_at a.1
  Ok (record { value = a.0; alias = x.0 }, x.1)

-- whether this terminal comes next, and what stands behind it
unfoldable pub optional_at : Terminal → List Symbol → Bool × List Symbol
optional_at t ts = match_option (after t ts) (false, ts) (λ y. (true, y.1))

unfoldable pub kind_at : List Symbol → Reading CheckKind
kind_at (Fixed Acyclic ∷ ts) = Ok (kinds.Acyclic, ts)
kind_at (Fixed Irreflexive ∷ ts) = Ok (kinds.Irreflexive, ts)
kind_at (Fixed Empty ∷ ts) = Ok (kinds.Empty, ts)
kind_at ts = Err (Unexpected, ts)

-- what stands behind `flag` and `~`
unfoldable pub check_with : Bool → Bool → List Symbol → Reading Clause
check_with flag negated ts = do
  k ← kind_at ts
  a ← expression_at k.1
  x ← alias_at a.1
  Ok (check flag negated k.0 a.0 x.0, x.1)

unfoldable pub check_at : List Symbol → Reading Clause
check_at ts =
    let flag = optional_at Flag ts in
    let negated = optional_at Tilde flag.1 in
    check_with flag.0 negated.0 negated.1

-- a quoted text that is a name
unfoldable pub quoted_at : List Symbol → Reading Word
quoted_at (Quoted x ∷ ts) = if is_name x then Ok (x, ts) else Err (Unexpected, Quoted x ∷ ts)
quoted_at ts = Err (Unexpected, ts)

unfoldable pub item_at : List Symbol → Reading Clause
item_at ts =
    match_option (after Let ts)
    (match_option (after Include ts)
    (match_option (after Show ts)
    (match_option (after Unshow ts)
    (check_at ts)
    (λ y. separated Comma (λ _. name_at) y.1 >>= λ x. Ok (unshow x.0, x.1)))
    (λ y. separated Comma (λ _. element_at) y.1 >>= λ x. Ok (show x.0, x.1)))
    (λ y. quoted_at y.1 >>= λ x. Ok (include x.0, x.1)))
    (λ y. group_at y.1)

-- nothing is read, and symbols are left
unfoldable pub unless_end : List Symbol → Look Symbol (Unit {0})
unless_end [] = None
unless_end (t ∷ ts) = Some (tt, t ∷ ts)

unfoldable pub title_at : List Symbol → Reading (Option Word)
title_at (Name x ∷ ts) = Ok (Some x, ts)
title_at (Quoted x ∷ ts) = Ok (Some x, ts)
title_at ts = Ok (None, ts)

unfoldable pub items_at : List Symbol → Reading (List Clause)
items_at ts = repeated cut unless_end (push_item (λ _. item_at)) [] ts

-- all of the symbols
unfoldable pub file_at : List Symbol → Reading File
file_at ts = do
  title ← title_at ts
  items ← items_at title.1
  Ok (record { title = title.0; items = items.0 }, items.1)
