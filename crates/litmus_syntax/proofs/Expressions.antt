-- Expressions: what is read is in the grammar, and what is in the grammar is read.
use Rattle.std.proofs.Common.{◌≡◌, ℕ, zero, suc, ◌<◌, List, ◌∷◌, length, subst, arith, inl, inr, refl, ap}
use Rattle.std.specs.Prelude.{Some, None, Ok}
use Rattle.descent.specs.Reading.{match_option, ◌>>=◌, repeated}
use Rattle.descent.proofs.Tools.{bind_ok, cases_of, moved, moved_look, Yields, Shows}
use Rattle.descent.proofs.Turns.{repeated-keeps, repeated-more, Arrives, last, next}
use Rattle.litmus_tree.specs.declared.expression.Operator.{Operator}
use Rattle.litmus_tree.specs.declared.expression.Operator.TheVariants as operators
use Rattle.litmus_syntax.specs.declared.symbol.Symbol.{Symbol}
use Rattle.litmus_syntax.specs.declared.symbol.Symbol.TheVariants.{Fixed, Name, Number}
use Rattle.litmus_syntax.specs.declared.symbol.Terminal.{Terminal}
use Rattle.litmus_syntax.specs.declared.symbol.Terminal.TheVariants.{LeftParen, RightParen, Semicolon, Comma, Bang, EqualEqual, BangEqual, AndAnd, OrOr}
use Rattle.litmus_syntax.specs.Grammar.{Joins, joins_equal, joins_unequal, joins_both, joins_either, IsLevel, level_unary, level_tighter, level_joined, IsUnary, unary_denied, unary_paren, unary_name, unary_number, IsExpression}
use Rattle.litmus_syntax.specs.Reading.{syntax, after, expected, sign, operator_at, Terms, unary_with, next_operand, operands, level_with, terms_below, expression_at}
use Rattle.litmus_tree.specs.Tree.{Word, Term, number, held, denied, joined}
use Rattle.litmus_syntax.proofs.Sounds.{Sound, Deeper, deeper}
use Rattle.litmus_syntax.proofs.SingleSymbols.{after-some, expected-ok, expected-first}

-- each takes a symbol

mutual
  pub level_shorter : {k n : ℕ} {ts rest : List Symbol} {a : Term} → IsLevel k n ts rest a → length rest < length ts
  level_shorter (level_unary d) = unary_shorter d
  level_shorter (level_tighter d) = level_shorter d
  level_shorter (level_joined d o e) = omega (arith, level_shorter d, level_shorter e)

  pub unary_shorter : {n : ℕ} {ts rest : List Symbol} {a : Term} → IsUnary n ts rest a → length rest < length ts
  unary_shorter (unary_denied d) = omega (arith, unary_shorter d)
  unary_shorter (unary_paren d) = omega (arith, level_shorter d)
  unary_shorter unary_name = omega arith
  unary_shorter unary_number = omega arith

-- operators

-- an operator of the level that stands in front
abbrev JoinsFirst : ℕ → List Symbol → List Symbol → Operator → Type 0
JoinsFirst k ts rest o = (t : Terminal) × (ts ≡ Fixed t ∷ rest) × Joins k t o

sign-some : (k : ℕ) (t : Terminal) (o : Operator) → Joins k t o → (ts rest : List Symbol) (p : Operator) → sign t o ts ≡ Some (p, rest) → JoinsFirst k ts rest p
sign-some k t o j ts rest p e =
    elim (cases_of (after t ts) _ _ _ e) [
      | inl s ↦ let h = s.1 in absurd (cc)
      | inr (y, was, f) ↦ moved_look (λ l q. JoinsFirst k ts l q) f (t, after-some t ts y.1 y.0 was, j)
    ]

pub operator-some : (k : ℕ) (ts rest : List Symbol) (o : Operator) → operator_at k ts ≡ Some (o, rest) → JoinsFirst k ts rest o
unfolding operator_at
operator-some zero ts rest o e =
    elim (cases_of (after EqualEqual ts) _ _ _ e) [
      | inl s ↦ sign-some 0 BangEqual operators.Unequal joins_unequal ts rest o s.1
      | inr (y, was, f) ↦ moved_look (λ l q. JoinsFirst 0 ts l q) f (EqualEqual, after-some EqualEqual ts y.1 y.0 was, joins_equal)
    ]
operator-some (suc zero) ts rest o e = sign-some 1 AndAnd operators.Both joins_both ts rest o e
operator-some (suc (suc zero)) ts rest o e = sign-some 2 OrOr operators.Either joins_either ts rest o e
operator-some (suc (suc (suc k))) ts rest o e = absurd (cc)

pub operator_takes : (k : ℕ) (ts rest : List Symbol) (o : Operator) → operator_at k ts ≡ Some (o, rest) → length rest < length ts
operator_takes k ts rest o e = omega (arith, ap length (operator-some k ts rest o e).1)

-- Soundness.

record SoundTerms (n : ℕ) (r : Terms) : Type 0 where
  expression : Sound r.expression (Deeper (IsLevel 3) n)
  unary : Sound r.unary (Deeper IsUnary n)

deeper-denied : {n : ℕ} {ts rest : List Symbol} {a : Term} → Deeper IsUnary n ts rest a → IsUnary n (Fixed Bang ∷ ts) rest (denied a)
deeper-denied (deeper d) = unary_denied d

deeper-paren : {n : ℕ} {ts rest : List Symbol} {a : Term} → Deeper (IsLevel 3) n ts (Fixed RightParen ∷ rest) a → IsUnary n (Fixed LeftParen ∷ ts) rest a
deeper-paren (deeper d) = unary_paren d

module _ (n : ℕ) (r : Terms) (inner : SoundTerms n r) where
  unary-sound : Sound (unary_with r) (IsUnary n)
  unfolding unary_with
  unary-sound (Name x ∷ ts) rest a e = moved (λ l t. IsUnary n (Name x ∷ ts) l t) e unary_name
  unary-sound (Number v ∷ ts) rest a e = moved (λ l t. IsUnary n (Number v ∷ ts) l t) e unary_number
  unary-sound (Fixed Bang ∷ ts) rest a e =
      let x = bind_ok (r.unary ts) _ _ e in
      moved (λ l t. IsUnary n (Fixed Bang ∷ ts) l t) x.2 (deeper-denied (inner.unary ts x.0.1 x.0.0 x.1))
  unary-sound (Fixed LeftParen ∷ ts) rest a e =
      let x = bind_ok (r.expression ts) _ _ e in
      let y = bind_ok (expected RightParen x.0.1) _ _ x.2 in
      moved (λ l t. IsUnary n (Fixed LeftParen ∷ ts) l t) y.2 (deeper-paren
      (subst (λ l. Deeper (IsLevel 3) n ts l x.0.0) (expected-ok RightParen x.0.1 y.0.1 y.0.0 y.1) (inner.expression ts x.0.1 x.0.0 x.1)))
  unary-sound ts rest a e = absurd (cc)

  operands-sound : (k : ℕ) → Sound (level_with r k) (IsLevel k n) → Sound (operands (operator_at k) (level_with r k)) (IsLevel (suc k) n)
  unfolding operands
  operands-sound k sound ts rest a e =
      let x = bind_ok (level_with r k ts) _ _ e in
      repeated-keeps (syntax 0) (operator_at k) (next_operand (level_with r k)) (λ l t. IsLevel (suc k) n ts l t)
      (λ o us mid back b c d was f.
      let g = bind_ok (level_with r k mid) _ _ f in
      let t = operator-some k us mid o was in
      moved (λ l t. IsLevel (suc k) n ts l t) g.2 (level_joined (subst (λ l. IsLevel (suc k) n ts l b) t.1 d) t.2 (sound mid g.0.1 g.0.0 g.1)))
      x.0.0 x.0.1 a rest (level_tighter (sound ts x.0.1 x.0.0 x.1)) x.2

  level-sound : (k : ℕ) → Sound (level_with r k) (IsLevel k n)
  unfolding level_with
  level-sound zero ts rest a e = level_unary (unary-sound ts rest a e)
  level-sound (suc k) ts rest a e = operands-sound k (level-sound k) ts rest a e

terms-sound : (n : ℕ) → SoundTerms n (terms_below n)
unfolding terms_below
terms-sound zero = record { expression = λ ts rest a e. absurd (cc); unary = λ ts rest a e. absurd (cc) }
terms-sound (suc n) = record {
  expression = λ ts rest a e. deeper (level-sound n (terms_below n) (terms-sound n) 3 ts rest a e);
  unary = λ ts rest a e. deeper (unary-sound n (terms_below n) (terms-sound n) ts rest a e);
}

pub level_is : (n k : ℕ) → Sound (level_with (terms_below n) k) (IsLevel k n)
level_is n k = level-sound n (terms_below n) (terms-sound n) k

pub expression-sound : (n : ℕ) → Sound (expression_at n) (IsExpression n)
expression-sound n = level_is n 3

pub level_takes : (n k : ℕ) (ts rest : List Symbol) (a : Term) → level_with (terms_below n) k ts ≡ Ok (a, rest) → length rest < length ts
level_takes n k ts rest a e = level_shorter (level_is n k ts rest a e)

-- a turn of the loop

pub operand_shorter : (n k : ℕ) (ts mid rest : List Symbol) (o : Operator) (a b : Term) → operator_at k ts ≡ Some (o, mid) → next_operand (level_with (terms_below n) k) o a mid ≡ Ok (b, rest) → length rest < length ts
operand_shorter n k ts mid rest o a b e f =
    let g = bind_ok (level_with (terms_below n) k mid) _ _ f in
    moved (λ l t. length l < length ts) g.2 (omega (arith, operator_takes k ts mid o e, level_takes n k mid g.0.1 g.0.0 g.1))

pub operands_more : (n k : ℕ) (a : Term) (ts : List Symbol) →
    repeated (syntax 0) (operator_at k) (next_operand (level_with (terms_below n) k)) a ts ≡
    match_option (operator_at k ts) (Ok (a, ts)) (λ x. next_operand (level_with (terms_below n) k) x.0 a x.1 >>= λ y. repeated (syntax 0) (operator_at k) (next_operand (level_with (terms_below n) k)) y.0 y.1)
operands_more n k = repeated-more (syntax 0) (operator_at k) (next_operand (level_with (terms_below n) k)) (operand_shorter n k)

-- Completeness.

-- no operator below level k stands next
abbrev pub Ends : ℕ → List Symbol → Type 0
Ends k rest = (j : ℕ) → j < k → operator_at j rest ≡ None

joins-first : {k : ℕ} {t : Terminal} {o : Operator} → Joins k t o → (ts : List Symbol) → Shows (operator_at k) (Fixed t ∷ ts) ts o
unfolding operator_at after
joins-first joins_equal ts = record { is = refl }
joins-first joins_unequal ts = record { is = refl }
joins-first joins_both ts = record { is = refl }
joins-first joins_either ts = record { is = refl }

-- an operator of a level is none of a tighter one
joins-ends : {k : ℕ} {t : Terminal} {o : Operator} → Joins k t o → (ts : List Symbol) → Ends k (Fixed t ∷ ts)
unfolding operator_at after
joins-ends joins_equal ts j h = absurd (omega arith)
joins-ends joins_unequal ts j h = absurd (omega arith)
joins-ends joins_both ts zero h = refl
joins-ends joins_both ts (suc j) h = absurd (omega arith)
joins-ends joins_either ts zero h = refl
joins-ends joins_either ts (suc zero) h = refl
joins-ends joins_either ts (suc (suc j)) h = absurd (omega arith)

pub paren-ends : (k : ℕ) (rest : List Symbol) → Ends k (Fixed RightParen ∷ rest)
unfolding operator_at after
paren-ends k rest zero h = refl
paren-ends k rest (suc zero) h = refl
paren-ends k rest (suc (suc zero)) h = refl
paren-ends k rest (suc (suc (suc j))) h = refl

pub semicolon-ends : (k : ℕ) (rest : List Symbol) → Ends k (Fixed Semicolon ∷ rest)
unfolding operator_at after
semicolon-ends k rest zero h = refl
semicolon-ends k rest (suc zero) h = refl
semicolon-ends k rest (suc (suc zero)) h = refl
semicolon-ends k rest (suc (suc (suc j))) h = refl

pub comma-ends : (k : ℕ) (rest : List Symbol) → Ends k (Fixed Comma ∷ rest)
unfolding operator_at after
comma-ends k rest zero h = refl
comma-ends k rest (suc zero) h = refl
comma-ends k rest (suc (suc zero)) h = refl
comma-ends k rest (suc (suc (suc j))) h = refl

-- reading a level has come to rest, with a read so far
abbrev LevelTo : ℕ → ℕ → List Symbol → List Symbol → Term → Type 0
LevelTo zero n ts rest a = Yields (unary_with (terms_below n)) ts rest a
LevelTo (suc k) n ts rest a = Arrives (syntax 0) (operator_at k) (next_operand (level_with (terms_below n) k)) (level_with (terms_below n) (suc k)) ts rest a

level-end : (k n : ℕ) {ts rest : List Symbol} {a : Term} → LevelTo k n ts rest a → Ends k rest → Yields (level_with (terms_below n) k) ts rest a
unfolding level_with
level-end zero n y ends = record { is = y.is }
level-end (suc k) n s ends = last s (ends k (omega arith))

level-first : (k n : ℕ) {ts rest : List Symbol} {a : Term} → Yields (level_with (terms_below n) k) ts rest a → LevelTo (suc k) n ts rest a
unfolding level_with operands
level-first k n y = record { is = rw y.is }

operand-yields : (n k : ℕ) (o : Operator) (a : Term) {ts rest : List Symbol} {b : Term} → Yields (level_with (terms_below n) k) ts rest b → Yields (next_operand (level_with (terms_below n) k) o a) ts rest (joined o a b)
operand-yields n k o a y = record { is = rw y.is }

level-next : (k n : ℕ) {ts mid rest : List Symbol} {t : Terminal} {o : Operator} {a b : Term} → LevelTo (suc k) n ts (Fixed t ∷ mid) a → Joins k t o → Yields (level_with (terms_below n) k) mid rest b → LevelTo (suc k) n ts rest (joined o a b)
level-next k n {mid = mid} {o = o} {a = a} s j y = next (syntax 0) (operator_at k) (next_operand (level_with (terms_below n) k)) (operand_shorter n k) s (joins-first j mid) (operand-yields n k o a y)

unary-denied : (n : ℕ) {ts rest : List Symbol} {a : Term} → Yields (unary_with (terms_below n)) ts rest a → Yields (unary_with (terms_below (suc n))) (Fixed Bang ∷ ts) rest (denied a)
unfolding unary_with terms_below
unary-denied n y = record { is = rw y.is }

unary-paren : (n : ℕ) {ts rest : List Symbol} {a : Term} → Yields (level_with (terms_below n) 3) ts (Fixed RightParen ∷ rest) a → Yields (unary_with (terms_below (suc n))) (Fixed LeftParen ∷ ts) rest a
unfolding unary_with terms_below
unary-paren n {ts} {rest} y = record { is = rw (y.is, expected-first RightParen rest) }

unary-name : (n : ℕ) (r : Word) (rest : List Symbol) → Yields (unary_with (terms_below n)) (Name r ∷ rest) rest (held r)
unfolding unary_with
unary-name n r rest = record { is = refl }

unary-number : (n v : ℕ) (rest : List Symbol) → Yields (unary_with (terms_below n)) (Number v ∷ rest) rest (number v)
unfolding unary_with
unary-number n v rest = record { is = refl }

mutual
  level-arrives : {k n : ℕ} {ts rest : List Symbol} {a : Term} → IsLevel k n ts rest a → ((j : ℕ) → suc j < k → operator_at j rest ≡ None) → LevelTo k n ts rest a
  level-arrives (level_unary d) ends = unary-complete d
  level-arrives (level_tighter {k} {n} {rest = rest} d) ends = level-first k n (level-end k n (level-arrives d (λ j h. ends j (omega arith))) (λ j h. ends j (omega arith)))
  level-arrives (level_joined {k} {n} {mid = mid} d o e) ends =
      level-next k n (level-arrives d (λ j h. joins-ends o mid j (omega arith))) o
      (level-end k n (level-arrives e (λ j h. ends j (omega arith))) (λ j h. ends j (omega arith)))

  unary-complete : {n : ℕ} {ts rest : List Symbol} {a : Term} → IsUnary n ts rest a → Yields (unary_with (terms_below n)) ts rest a
  unary-complete (unary_denied {n} d) = unary-denied n (unary-complete d)
  unary-complete (unary_paren {n} {rest = rest} d) = unary-paren n (level-end 3 n (level-arrives d (λ j h. paren-ends 3 rest j (omega arith))) (paren-ends 3 rest))
  unary-complete (unary_name {n} {r} {rest}) = unary-name n r rest
  unary-complete (unary_number {n} {v} {rest}) = unary-number n v rest

pub expression-complete : {n : ℕ} {ts rest : List Symbol} {a : Term} → IsExpression n ts rest a → Ends 3 rest → Yields (expression_at n) ts rest a
expression-complete {n} d ends = level-end 3 n (level-arrives d (λ j h. ends j (omega arith))) ends
