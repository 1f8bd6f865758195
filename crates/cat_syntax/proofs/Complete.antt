-- Expressions that are in the grammar are read.
use Rattle.std.proofs.Common.{◌≡◌, ℕ, zero, suc, ◌<◌, ◌≤◌, List, [], ◌∷◌, ◌++◌, append_assoc, true, false, refl, ap, sym, ◌∙◌, arith, inl, inr}
use Rattle.std.specs.Prelude.{None, Ok}
use Rattle.std.proofs.lemmas.Bool.{cases_Bool}
use Rattle.descent.proofs.Tools.{Yields, Shows}
use Rattle.descent.proofs.Turns.{Arrives, last, next}
use Rattle.cat_tree.specs.declared.node.Infix.{Infix}
use Rattle.cat_syntax.specs.declared.operator.Postfix.{Postfix}
use Rattle.cat_syntax.specs.declared.operator.Postfix.TheVariants as postfixes
use Rattle.cat_syntax.specs.declared.symbol.Symbol.{Symbol}
use Rattle.cat_syntax.specs.declared.symbol.Symbol.TheVariants.{Fixed, Name}
use Rattle.cat_syntax.specs.declared.symbol.Terminal.{Terminal}
use Rattle.cat_syntax.specs.declared.symbol.Terminal.TheVariants.{Let, And, Acyclic, Irreflexive, Empty, As, Flag, Show, Unshow, Include, Comma, Domain, Range, Underscore, Zero, LeftParen, RightParen, LeftBracket, RightBracket, LeftBrace, RightBrace, Bar, Semicolon, Backslash, Ampersand, Star, Tilde, Plus, Question, Inverse}
use Rattle.cat_tree.specs.Postorder.{listed, terms_of-listed}
use Rattle.cat_tree.specs.Tree.{Term, Terms, complement, domain, range, identity, name, empty_relation, empty_set, universe, call}
use Rattle.cat_syntax.specs.Grammar.{joined, begins_check, begins_operand, JoinsLeft, joins_product, joins_difference, JoinsRight, joins_intersection, joins_sequence, joins_union, IsLevel, level_unary, level_tighter, level_left, level_right, IsUnary, unary_complement, unary_postfix, IsPostfix, postfix_primary, postfix_plus, postfix_star, postfix_optional, postfix_inverse, IsPrimary, primary_name, primary_universe, primary_empty_relation, primary_empty_set, primary_paren, primary_identity, primary_domain, primary_range, primary_call, AreArguments, last_argument, more_arguments}
use Rattle.cat_syntax.specs.Reading.{terminal_eq, after, infix_at, associates_left, postfix_at, applied, applied_at, next_operand, right, left, Inner, separated, opens_arguments, arguments_with, enclosed_with, primary_with, postfix_with, unary_with, level_with, below, cut}
use Rattle.cat_syntax.proofs.Symbols.{after-first, expected-first}
use Rattle.cat_syntax.proofs.Levels.{left_shorter, postfix_shorter, right_more, arguments_from, arguments_turn}

-- what stands next is no operator below level k, none that stands behind its operand, and no list of arguments
pub record Ends (k : ℕ) (rest : List Symbol) : Type 0 where
  pub none_between : (j : ℕ) → j < k → infix_at j rest ≡ None
  pub none_behind : postfix_at rest ≡ None
  pub no_call : opens_arguments rest ≡ false

ends-below : (k m : ℕ) (rest : List Symbol) → m ≤ k → Ends k rest → Ends m rest
ends-below k m rest h e = record { none_between = λ j i. e.none_between j (omega arith); none_behind = e.none_behind; no_call = e.no_call }

-- symbols

no-infix : (t : Terminal) (rest : List Symbol) → terminal_eq t Star ≡ false → terminal_eq t Ampersand ≡ false → terminal_eq t Backslash ≡ false → terminal_eq t Semicolon ≡ false → terminal_eq t Bar ≡ false →
    (j : ℕ) → infix_at j (Fixed t ∷ rest) ≡ None
unfolding infix_at after
no-infix t rest a b c d e zero = rw a
no-infix t rest a b c d e (suc zero) = rw b
no-infix t rest a b c d e (suc (suc zero)) = rw c
no-infix t rest a b c d e (suc (suc (suc zero))) = rw d
no-infix t rest a b c d e (suc (suc (suc (suc zero)))) = rw e
no-infix t rest a b c d e (suc (suc (suc (suc (suc j))))) = refl

-- a terminal that ends an expression
pub data Stops : Terminal → Type 0 where
  stops_paren : Stops RightParen
  stops_bracket : Stops RightBracket
  stops_and : Stops And
  stops_as : Stops As
  stops_comma : Stops Comma
  stops_let : Stops Let
  stops_flag : Stops Flag
  stops_tilde : Stops Tilde
  stops_acyclic : Stops Acyclic
  stops_irreflexive : Stops Irreflexive
  stops_empty : Stops Empty
  stops_include : Stops Include
  stops_show : Stops Show
  stops_unshow : Stops Unshow

stopped : (t : Terminal) (rest : List Symbol) → terminal_eq t Star ≡ false → terminal_eq t Ampersand ≡ false → terminal_eq t Backslash ≡ false → terminal_eq t Semicolon ≡ false → terminal_eq t Bar ≡ false →
    postfix_at (Fixed t ∷ rest) ≡ None → opens_arguments (Fixed t ∷ rest) ≡ false → Ends 5 (Fixed t ∷ rest)
stopped t rest a b c d e p q = record { none_between = λ j h. no-infix t rest a b c d e j; none_behind = p; no_call = q }

pub stops-ends : {t : Terminal} → Stops t → (rest : List Symbol) → Ends 5 (Fixed t ∷ rest)
unfolding postfix_at opens_arguments
stops-ends stops_paren rest = stopped RightParen rest refl refl refl refl refl refl refl
stops-ends stops_bracket rest = stopped RightBracket rest refl refl refl refl refl refl refl
stops-ends stops_and rest = stopped And rest refl refl refl refl refl refl refl
stops-ends stops_as rest = stopped As rest refl refl refl refl refl refl refl
stops-ends stops_comma rest = stopped Comma rest refl refl refl refl refl refl refl
stops-ends stops_let rest = stopped Let rest refl refl refl refl refl refl refl
stops-ends stops_flag rest = stopped Flag rest refl refl refl refl refl refl refl
stops-ends stops_tilde rest = stopped Tilde rest refl refl refl refl refl refl refl
stops-ends stops_acyclic rest = stopped Acyclic rest refl refl refl refl refl refl refl
stops-ends stops_irreflexive rest = stopped Irreflexive rest refl refl refl refl refl refl refl
stops-ends stops_empty rest = stopped Empty rest refl refl refl refl refl refl refl
stops-ends stops_include rest = stopped Include rest refl refl refl refl refl refl refl
stops-ends stops_show rest = stopped Show rest refl refl refl refl refl refl refl
stops-ends stops_unshow rest = stopped Unshow rest refl refl refl refl refl refl refl

no-infix-nothing : (j : ℕ) → infix_at j [] ≡ None
unfolding infix_at after
no-infix-nothing zero = refl
no-infix-nothing (suc zero) = refl
no-infix-nothing (suc (suc zero)) = refl
no-infix-nothing (suc (suc (suc zero))) = refl
no-infix-nothing (suc (suc (suc (suc zero)))) = refl
no-infix-nothing (suc (suc (suc (suc (suc j))))) = refl

pub nothing-ends : (k : ℕ) → Ends k []
unfolding postfix_at opens_arguments
nothing-ends k = record { none_between = λ j h. no-infix-nothing j; none_behind = refl; no_call = refl }

-- the operators of a level

left-first : {k : ℕ} {t : Terminal} {o : Infix} → JoinsLeft k t o → (ts : List Symbol) → Shows (infix_at k) (Fixed t ∷ ts) ts o
unfolding infix_at after
left-first joins_product ts = record { is = refl }
left-first joins_difference ts = record { is = refl }

right-first : {k : ℕ} {t : Terminal} {o : Infix} → JoinsRight k t o → (ts : List Symbol) → Shows (infix_at k) (Fixed t ∷ ts) ts o
unfolding infix_at after
right-first joins_intersection ts = record { is = refl }
right-first joins_sequence ts = record { is = refl }
right-first joins_union ts = record { is = refl }

left-is : {k : ℕ} {t : Terminal} {o : Infix} → JoinsLeft k t o → associates_left k ≡ true
unfolding associates_left
left-is joins_product = refl
left-is joins_difference = refl

right-is : {k : ℕ} {t : Terminal} {o : Infix} → JoinsRight k t o → associates_left k ≡ false
unfolding associates_left
right-is joins_intersection = refl
right-is joins_sequence = refl
right-is joins_union = refl

-- no operator of a tighter level

ampersand-below : (ts : List Symbol) (j : ℕ) → j < 1 → infix_at j (Fixed Ampersand ∷ ts) ≡ None
unfolding infix_at after
ampersand-below ts zero h = refl
ampersand-below ts (suc j) h = absurd (omega arith)

backslash-below : (ts : List Symbol) (j : ℕ) → j < 2 → infix_at j (Fixed Backslash ∷ ts) ≡ None
unfolding infix_at after
backslash-below ts zero h = refl
backslash-below ts (suc zero) h = refl
backslash-below ts (suc (suc j)) h = absurd (omega arith)

semicolon-below : (ts : List Symbol) (j : ℕ) → j < 3 → infix_at j (Fixed Semicolon ∷ ts) ≡ None
unfolding infix_at after
semicolon-below ts zero h = refl
semicolon-below ts (suc zero) h = refl
semicolon-below ts (suc (suc zero)) h = refl
semicolon-below ts (suc (suc (suc j))) h = absurd (omega arith)

bar-below : (ts : List Symbol) (j : ℕ) → j < 4 → infix_at j (Fixed Bar ∷ ts) ≡ None
unfolding infix_at after
bar-below ts zero h = refl
bar-below ts (suc zero) h = refl
bar-below ts (suc (suc zero)) h = refl
bar-below ts (suc (suc (suc zero))) h = refl
bar-below ts (suc (suc (suc (suc j)))) h = absurd (omega arith)

-- an operator of a level is none of a level below it; an infix * stands before an operand
left-ends : {k : ℕ} {t : Terminal} {o : Infix} → JoinsLeft k t o → (ts : List Symbol) → begins_operand ts ≡ true → Ends k (Fixed t ∷ ts)
unfolding postfix_at opens_arguments
left-ends joins_product ts h = record { none_between = λ j i. absurd (omega arith); none_behind = rw h; no_call = refl }
left-ends joins_difference ts h = record { none_between = backslash-below ts; none_behind = refl; no_call = refl }

right-ends : {k : ℕ} {t : Terminal} {o : Infix} → JoinsRight k t o → (ts : List Symbol) → Ends k (Fixed t ∷ ts)
unfolding postfix_at opens_arguments
right-ends joins_intersection ts = record { none_between = ampersand-below ts; none_behind = refl; no_call = refl }
right-ends joins_sequence ts = record { none_between = semicolon-below ts; none_behind = refl; no_call = refl }
right-ends joins_union ts = record { none_between = bar-below ts; none_behind = refl; no_call = refl }

-- An operand begins as operands do.

mutual
  unfolding begins_operand begins_check

  level-opens : {k n : ℕ} {ts rest : List Symbol} {a : Term} → IsLevel k n ts rest a → begins_operand ts ≡ true
  level-opens (level_unary d) = unary-opens d
  level-opens (level_tighter d) = level-opens d
  level-opens (level_left d o e) = level-opens d
  level-opens (level_right d o e) = level-opens d

  unary-opens : {n : ℕ} {ts rest : List Symbol} {a : Term} → IsUnary n ts rest a → begins_operand ts ≡ true
  unary-opens (unary_complement d) = rw (unary-no_check d)
  unary-opens (unary_postfix d) = postfix-opens d

  unary-no_check : {n : ℕ} {ts rest : List Symbol} {a : Term} → IsUnary n ts rest a → begins_check ts ≡ false
  unary-no_check (unary_complement d) = refl
  unary-no_check (unary_postfix d) = postfix-no_check d

  postfix-opens : {n : ℕ} {ts rest : List Symbol} {a : Term} → IsPostfix n ts rest a → begins_operand ts ≡ true
  postfix-opens (postfix_primary d) = primary-opens d
  postfix-opens (postfix_plus d) = postfix-opens d
  postfix-opens (postfix_star d f) = postfix-opens d
  postfix-opens (postfix_optional d) = postfix-opens d
  postfix-opens (postfix_inverse d) = postfix-opens d

  postfix-no_check : {n : ℕ} {ts rest : List Symbol} {a : Term} → IsPostfix n ts rest a → begins_check ts ≡ false
  postfix-no_check (postfix_primary d) = primary-no_check d
  postfix-no_check (postfix_plus d) = postfix-no_check d
  postfix-no_check (postfix_star d f) = postfix-no_check d
  postfix-no_check (postfix_optional d) = postfix-no_check d
  postfix-no_check (postfix_inverse d) = postfix-no_check d

  primary-opens : {n : ℕ} {ts rest : List Symbol} {a : Term} → IsPrimary n ts rest a → begins_operand ts ≡ true
  primary-opens primary_name = refl
  primary-opens primary_universe = refl
  primary-opens primary_empty_relation = refl
  primary-opens primary_empty_set = refl
  primary-opens (primary_paren d) = refl
  primary-opens (primary_identity d) = refl
  primary-opens (primary_domain d) = refl
  primary-opens (primary_range d) = refl
  primary-opens (primary_call d) = refl

  primary-no_check : {n : ℕ} {ts rest : List Symbol} {a : Term} → IsPrimary n ts rest a → begins_check ts ≡ false
  primary-no_check primary_name = refl
  primary-no_check primary_universe = refl
  primary-no_check primary_empty_relation = refl
  primary-no_check primary_empty_set = refl
  primary-no_check (primary_paren d) = refl
  primary-no_check (primary_identity d) = refl
  primary-no_check (primary_domain d) = refl
  primary-no_check (primary_range d) = refl
  primary-no_check (primary_call d) = refl

-- An operand that begins with no ~ is read as such.

primary-plain : {n : ℕ} {ts rest : List Symbol} {a : Term} → IsPrimary n ts rest a → (r : Inner) → unary_with r ts ≡ postfix_with r ts
unfolding unary_with
primary-plain primary_name r = refl
primary-plain primary_universe r = refl
primary-plain primary_empty_relation r = refl
primary-plain primary_empty_set r = refl
primary-plain (primary_paren d) r = refl
primary-plain (primary_identity d) r = refl
primary-plain (primary_domain d) r = refl
primary-plain (primary_range d) r = refl
primary-plain (primary_call d) r = refl

postfix-plain : {n : ℕ} {ts rest : List Symbol} {a : Term} → IsPostfix n ts rest a → (r : Inner) → unary_with r ts ≡ postfix_with r ts
postfix-plain (postfix_primary d) r = primary-plain d r
postfix-plain (postfix_plus d) r = postfix-plain d r
postfix-plain (postfix_star d f) r = postfix-plain d r
postfix-plain (postfix_optional d) r = postfix-plain d r
postfix-plain (postfix_inverse d) r = postfix-plain d r

-- One lemma for each production.

enclosed-yields : (n : ℕ) (opening closing : Terminal) {ts rest : List Symbol} {a : Term} → Yields (level_with (below n) 5) ts (Fixed closing ∷ rest) a →
    Yields (enclosed_with (below (suc n)) opening closing) (Fixed opening ∷ ts) rest a
unfolding enclosed_with below
enclosed-yields n opening closing {ts} {rest} y = record { is = rw (expected-first opening ts, y.is, expected-first closing rest) }

paren-yields : (n : ℕ) {ts rest : List Symbol} {a : Term} → Yields (enclosed_with (below n) LeftParen RightParen) (Fixed LeftParen ∷ ts) rest a → Yields (primary_with (below n)) (Fixed LeftParen ∷ ts) rest a
unfolding primary_with
paren-yields n y = record { is = y.is }

identity-yields : (n : ℕ) {ts rest : List Symbol} {a : Term} → Yields (enclosed_with (below n) LeftBracket RightBracket) (Fixed LeftBracket ∷ ts) rest a → Yields (primary_with (below n)) (Fixed LeftBracket ∷ ts) rest (identity a)
unfolding primary_with
identity-yields n y = record { is = rw y.is }

domain-yields : (n : ℕ) {ts rest : List Symbol} {a : Term} → Yields (enclosed_with (below n) LeftParen RightParen) ts rest a → Yields (primary_with (below n)) (Fixed Domain ∷ ts) rest (domain a)
unfolding primary_with
domain-yields n y = record { is = rw y.is }

range-yields : (n : ℕ) {ts rest : List Symbol} {a : Term} → Yields (enclosed_with (below n) LeftParen RightParen) ts rest a → Yields (primary_with (below n)) (Fixed Range ∷ ts) rest (range a)
unfolding primary_with
range-yields n y = record { is = rw y.is }

name-yields : (n : ℕ) (x : List ℕ) (rest : List Symbol) → opens_arguments rest ≡ false → Yields (primary_with (below n)) (Name x ∷ rest) rest (name x)
unfolding primary_with
name-yields n x rest none = record { is = rw none }

-- arguments

last-yields : (n : ℕ) (as' : List Term) {ts rest : List Symbol} {a : Term} → Yields (level_with (below n) 5) ts rest a → after Comma rest ≡ None → Yields (arguments_from n as') ts rest (as' ++ a ∷ [])
last-yields n as' {ts} {rest} {a} y none = record { is = rw (arguments_turn n as' ts, y.is, none) refl }

more-yields : (n : ℕ) (as' bs : List Term) {ts mid rest : List Symbol} {a : Term} → Yields (level_with (below n) 5) ts (Fixed Comma ∷ mid) a → Yields (arguments_from n (as' ++ a ∷ [])) mid rest ((as' ++ a ∷ []) ++ bs) →
    Yields (arguments_from n as') ts rest (as' ++ a ∷ bs)
more-yields n as' bs {ts} {mid} {rest} {a} y z =
    record { is = rw (arguments_turn n as' ts, y.is, after-first Comma mid) (z.is ∙ ap (λ (l : List Term). Ok (l, rest)) (append_assoc as' (a ∷ []) bs)) }

call-yields : (n : ℕ) (f : List ℕ) {ts rest : List Symbol} {bs : Terms} → Yields (arguments_from n []) ts (Fixed RightParen ∷ rest) (listed bs) → Yields (primary_with (below (suc n))) (Name f ∷ Fixed LeftParen ∷ ts) rest (call f bs)
unfolding primary_with opens_arguments arguments_with separated below arguments_from
call-yields n f {ts} {rest} {bs} y = record { is = rw (expected-first LeftParen ts, y.is, expected-first RightParen rest) (ap (λ (cs : Terms). Ok (call f cs, rest)) (terms_of-listed bs)) }

no-comma : (rest : List Symbol) → after Comma (Fixed RightParen ∷ rest) ≡ None
unfolding after
no-comma rest = refl

universe-yields : (n : ℕ) (rest : List Symbol) → Yields (primary_with (below n)) (Fixed Underscore ∷ rest) rest universe
unfolding primary_with
universe-yields n rest = record { is = refl }

empty_relation-yields : (n : ℕ) (rest : List Symbol) → Yields (primary_with (below n)) (Fixed Zero ∷ rest) rest empty_relation
unfolding primary_with
empty_relation-yields n rest = record { is = refl }

empty_set-yields : (n : ℕ) (rest : List Symbol) → Yields (primary_with (below n)) (Fixed LeftBrace ∷ Fixed RightBrace ∷ rest) rest empty_set
unfolding primary_with
empty_set-yields n rest = record { is = rw (expected-first RightBrace rest) }

-- a sign behind an operand is no list of arguments

plus-no_call : (rest : List Symbol) → opens_arguments (Fixed Plus ∷ rest) ≡ false
unfolding opens_arguments
plus-no_call rest = refl

star-no_call : (rest : List Symbol) → opens_arguments (Fixed Star ∷ rest) ≡ false
unfolding opens_arguments
star-no_call rest = refl

optional-no_call : (rest : List Symbol) → opens_arguments (Fixed Question ∷ rest) ≡ false
unfolding opens_arguments
optional-no_call rest = refl

inverse-no_call : (rest : List Symbol) → opens_arguments (Fixed Inverse ∷ rest) ≡ false
unfolding opens_arguments
inverse-no_call rest = refl

-- reading a postfix expression has come to rest, with a read so far
abbrev PostfixTo : ℕ → List Symbol → List Symbol → Term → Type 0
PostfixTo n ts rest a = Arrives cut postfix_at applied_at (postfix_with (below n)) ts rest a

first-postfix : (n : ℕ) {ts rest : List Symbol} {a : Term} → Yields (primary_with (below n)) ts rest a → PostfixTo n ts rest a
unfolding postfix_with
first-postfix n y = record { is = rw y.is }

next-postfix : (n : ℕ) (o : Postfix) {ts us rest : List Symbol} {a : Term} → PostfixTo n ts us a → Shows postfix_at us rest o → PostfixTo n ts rest (applied o a)
next-postfix n o s y = next cut postfix_at applied_at postfix_shorter s y (record { is = refl })

plus-shows : (rest : List Symbol) → Shows postfix_at (Fixed Plus ∷ rest) rest postfixes.Plus
unfolding postfix_at
plus-shows rest = record { is = refl }

star-shows : (rest : List Symbol) → begins_operand rest ≡ false → Shows postfix_at (Fixed Star ∷ rest) rest postfixes.Star
unfolding postfix_at
star-shows rest h = record { is = rw h }

optional-shows : (rest : List Symbol) → Shows postfix_at (Fixed Question ∷ rest) rest postfixes.Optional
unfolding postfix_at
optional-shows rest = record { is = refl }

inverse-shows : (rest : List Symbol) → Shows postfix_at (Fixed Inverse ∷ rest) rest postfixes.Inverse
unfolding postfix_at
inverse-shows rest = record { is = refl }

unary-tilde : (n : ℕ) {ts rest : List Symbol} {a : Term} → Yields (unary_with (below n)) ts rest a → Yields (unary_with (below (suc n))) (Fixed Tilde ∷ ts) rest (complement a)
unfolding unary_with below
unary-tilde n y = record { is = rw y.is }

unary-plain : (n : ℕ) {ts rest : List Symbol} {a : Term} → IsPostfix n ts rest a → PostfixTo n ts rest a → postfix_at rest ≡ None → Yields (unary_with (below n)) ts rest a
unary-plain n d s e = record { is = postfix-plain d (below n) ∙ (last s e).is }

level-zero : (n : ℕ) {ts rest : List Symbol} {a : Term} → Yields (unary_with (below n)) ts rest a → Yields (level_with (below n) zero) ts rest a
unfolding level_with
level-zero n y = record { is = y.is }

reads-left : (n k : ℕ) → associates_left k ≡ true → (ts : List Symbol) → level_with (below n) (suc k) ts ≡ left (infix_at k) (level_with (below n) k) ts
unfolding level_with
reads-left n k h ts = rw h

reads-right : (n k : ℕ) → associates_left k ≡ false → (ts : List Symbol) → level_with (below n) (suc k) ts ≡ right (infix_at k) (level_with (below n) k) ts
unfolding level_with
reads-right n k h ts = rw h

-- reading a level that associates to the left has come to rest, with a read so far
abbrev LeftTo : ℕ → ℕ → List Symbol → List Symbol → Term → Type 0
LeftTo n k ts rest a = Arrives cut (infix_at k) (next_operand (level_with (below n) k)) (left (infix_at k) (level_with (below n) k)) ts rest a

first-left : (n k : ℕ) {ts rest : List Symbol} {a : Term} → Yields (level_with (below n) k) ts rest a → LeftTo n k ts rest a
unfolding left
first-left n k y = record { is = rw y.is }

operand-yields : (n k : ℕ) (o : Infix) (a : Term) {ts rest : List Symbol} {b : Term} → Yields (level_with (below n) k) ts rest b → Yields (next_operand (level_with (below n) k) o a) ts rest (joined o a b)
operand-yields n k o a y = record { is = rw y.is }

next-left : (n k : ℕ) {ts mid rest : List Symbol} {t : Terminal} {o : Infix} {a b : Term} → LeftTo n k ts (Fixed t ∷ mid) a → JoinsLeft k t o → Yields (level_with (below n) k) mid rest b → LeftTo n k ts rest (joined o a b)
next-left n k {mid = mid} {o = o} {a = a} s j y = next cut (infix_at k) (next_operand (level_with (below n) k)) (left_shorter n k) s (left-first j mid) (operand-yields n k o a y)

last-left : (n k : ℕ) {ts rest : List Symbol} {a : Term} → LeftTo n k ts rest a → associates_left k ≡ true → infix_at k rest ≡ None → Yields (level_with (below n) (suc k)) ts rest a
last-left n k {ts} s h e = record { is = reads-left n k h ts ∙ (last s e).is }

one-right : (n k : ℕ) {ts rest : List Symbol} {a : Term} → Yields (level_with (below n) k) ts rest a → associates_left k ≡ false → infix_at k rest ≡ None → Yields (level_with (below n) (suc k)) ts rest a
one-right n k {ts} y h e = record { is = reads-right n k h ts ∙ rw (right_more n k ts, y.is, e) }

two-right : (n k : ℕ) {ts mid rest : List Symbol} {t : Terminal} {o : Infix} {a b : Term} → Yields (level_with (below n) k) ts (Fixed t ∷ mid) a → JoinsRight k t o → Yields (level_with (below n) (suc k)) mid rest b → Yields (level_with (below n) (suc k)) ts rest (joined o a b)
two-right n k {ts} {mid} y j z =
    let s = right-first j mid in
    let f = sym (reads-right n k (right-is j) mid) ∙ z.is in
    record { is = reads-right n k (right-is j) ts ∙ rw (right_more n k ts, y.is, s.is, f) }

level-one : (n k : ℕ) {ts rest : List Symbol} {a : Term} → Yields (level_with (below n) k) ts rest a → Ends (suc k) rest → Yields (level_with (below n) (suc k)) ts rest a
level-one n k y ends =
    elim (cases_Bool (associates_left k)) [
      | inl h ↦ last-left n k (first-left n k y) h (ends.none_between k (omega arith))
      | inr h ↦ one-right n k y h (ends.none_between k (omega arith))
    ]

not-right : {k : ℕ} {t : Terminal} {o : Infix} → JoinsRight k t o → associates_left k ≡ true → ⊥
not-right j h = let f = right-is j in cc

-- the same of any level; nothing of the level that has no operators
abbrev LevelTo : ℕ → ℕ → List Symbol → List Symbol → Term → Type 0
LevelTo zero n ts rest a = Unit {0}
LevelTo (suc k) n ts rest a = associates_left k ≡ true → LeftTo n k ts rest a

so-far : (n k : ℕ) (ts rest : List Symbol) (a : Term) → Ends k rest →
    (((i : ℕ) → suc i < suc k → infix_at i rest ≡ None) → postfix_at rest ≡ None → opens_arguments rest ≡ false → LevelTo (suc k) n ts rest a) → associates_left k ≡ true → LeftTo n k ts rest a
so-far n k ts rest a ends f h = f (λ i l. ends.none_between i (omega arith)) ends.none_behind ends.no_call h

mutual
  pub level-complete : {k n : ℕ} {ts rest : List Symbol} {a : Term} → IsLevel k n ts rest a → Ends k rest → Yields (level_with (below n) k) ts rest a
  level-complete (level_unary {n} d) ends = level-zero n (unary-complete d ends.none_behind ends.no_call)
  level-complete (level_tighter {k} {n} {rest = rest} d) ends = level-one n k (level-complete d (ends-below (suc k) k rest (omega arith) ends)) ends
  level-complete (level_left {k} {n} {mid = mid} {rest = rest} d o e) ends =
      last-left n k
      (next-left n k (so-far _ _ _ _ _ (left-ends o mid (level-opens e)) (left-arrives d) (left-is o)) o (level-complete e (ends-below (suc k) k rest (omega arith) ends)))
      (left-is o) (ends.none_between k (omega arith))
  level-complete (level_right {k} {n} {mid = mid} d o e) ends = two-right n k (level-complete d (right-ends o mid)) o (level-complete e ends)

  left-arrives : {j n : ℕ} {ts rest : List Symbol} {a : Term} → IsLevel j n ts rest a → ((i : ℕ) → suc i < j → infix_at i rest ≡ None) → postfix_at rest ≡ None → opens_arguments rest ≡ false → LevelTo j n ts rest a
  left-arrives (level_unary d) e p q = tt
  left-arrives (level_tighter {k} {n} {rest = rest} d) e p q = λ h. first-left n k (level-complete d (record { none_between = λ i l. e i (omega arith); none_behind = p; no_call = q }))
  left-arrives (level_left {k} {n} {mid = mid} d o b) e p q = λ h.
      next-left n k (so-far _ _ _ _ _ (left-ends o mid (level-opens b)) (left-arrives d) h) o (level-complete b (record { none_between = λ i l. e i (omega arith); none_behind = p; no_call = q }))
  left-arrives (level_right d o b) e p q = λ h. absurd (not-right o h)

  unary-complete : {n : ℕ} {ts rest : List Symbol} {a : Term} → IsUnary n ts rest a → postfix_at rest ≡ None → opens_arguments rest ≡ false → Yields (unary_with (below n)) ts rest a
  unary-complete (unary_complement {n} d) e q = unary-tilde n (unary-complete d e q)
  unary-complete (unary_postfix {n} d) e q = unary-plain n d (postfix-arrives d q) e

  postfix-arrives : {n : ℕ} {ts rest : List Symbol} {a : Term} → IsPostfix n ts rest a → opens_arguments rest ≡ false → PostfixTo n ts rest a
  postfix-arrives (postfix_primary {n} d) q = first-postfix n (primary-complete d q)
  postfix-arrives (postfix_plus {n} {rest = rest} d) q = next-postfix n postfixes.Plus (postfix-arrives d (plus-no_call rest)) (plus-shows rest)
  postfix-arrives (postfix_star {n} {rest = rest} d f) q = next-postfix n postfixes.Star (postfix-arrives d (star-no_call rest)) (star-shows rest f)
  postfix-arrives (postfix_optional {n} {rest = rest} d) q = next-postfix n postfixes.Optional (postfix-arrives d (optional-no_call rest)) (optional-shows rest)
  postfix-arrives (postfix_inverse {n} {rest = rest} d) q = next-postfix n postfixes.Inverse (postfix-arrives d (inverse-no_call rest)) (inverse-shows rest)

  primary-complete : {n : ℕ} {ts rest : List Symbol} {a : Term} → IsPrimary n ts rest a → opens_arguments rest ≡ false → Yields (primary_with (below n)) ts rest a
  primary-complete (primary_name {n} {x} {rest}) q = name-yields n x rest q
  primary-complete (primary_universe {n} {rest}) q = universe-yields n rest
  primary-complete (primary_empty_relation {n} {rest}) q = empty_relation-yields n rest
  primary-complete (primary_empty_set {n} {rest}) q = empty_set-yields n rest
  primary-complete (primary_paren {n} {rest = rest} d) q = paren-yields (suc n) (enclosed-yields n LeftParen RightParen (level-complete d (stops-ends stops_paren rest)))
  primary-complete (primary_identity {n} {rest = rest} d) q = identity-yields (suc n) (enclosed-yields n LeftBracket RightBracket (level-complete d (stops-ends stops_bracket rest)))
  primary-complete (primary_domain {n} {rest = rest} d) q = domain-yields (suc n) (enclosed-yields n LeftParen RightParen (level-complete d (stops-ends stops_paren rest)))
  primary-complete (primary_range {n} {rest = rest} d) q = range-yields (suc n) (enclosed-yields n LeftParen RightParen (level-complete d (stops-ends stops_paren rest)))
  primary-complete (primary_call {n} {f = f} {rest = rest} d) q = call-yields n f (arguments-complete d [] (stops-ends stops_paren rest) (no-comma rest))

  arguments-complete : {n : ℕ} {ts rest : List Symbol} {bs : Terms} → AreArguments n ts rest bs → (as' : List Term) → Ends 5 rest → after Comma rest ≡ None → Yields (arguments_from n as') ts rest (as' ++ listed bs)
  arguments-complete (last_argument {n} d) as' ends none = last-yields n as' (level-complete d ends) none
  arguments-complete (more_arguments {n} {mid = mid} {a = a} {bs = bs} d e) as' ends none = more-yields n as' (listed bs) (level-complete d (stops-ends stops_comma mid)) (arguments-complete e (as' ++ a ∷ []) ends none)
