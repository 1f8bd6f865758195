-- Expressions that are read are in the grammar.
use Rattle.std.proofs.Common.{◌≡◌, ℕ, zero, suc, ◌<◌, List, ◌∷◌, length, refl, true, false, sym, subst, arith, inl, inr}
use Rattle.std.specs.Prelude.{Some, Ok}
use Rattle.std.proofs.lemmas.Bool.{cases_Bool}
use Rattle.descent.proofs.Tools.{bind_ok, cases_of, chosen, moved, moved_look}
use Rattle.descent.proofs.Turns.{repeated-keeps}
use Rattle.cat_syntax.specs.declared.operator.Postfix.{Postfix}
use Rattle.cat_syntax.specs.declared.symbol.Symbol.{Symbol}
use Rattle.cat_syntax.specs.declared.symbol.Symbol.TheVariants.{Fixed, Name}
use Rattle.cat_syntax.specs.declared.symbol.Terminal.{Terminal}
use Rattle.cat_syntax.specs.declared.symbol.Terminal.TheVariants.{Domain, Range, Underscore, Zero, LeftParen, RightParen, LeftBracket, RightBracket, LeftBrace, RightBrace, Comma, Star, Tilde, Plus, Question, Inverse}
use Rattle.cat_tree.specs.Terms.{terms_of}
use Rattle.cat_tree.specs.Tree.{Term, Terms, complement, domain, range, identity, call}
use Rattle.cat_syntax.specs.Grammar.{begins_operand, IsLevel, level_unary, level_tighter, level_left, level_right, IsUnary, unary_complement, unary_postfix, IsPostfix, postfix_primary, postfix_plus, postfix_star, postfix_optional, postfix_inverse, IsPrimary, primary_name, primary_universe, primary_empty_relation, primary_empty_set, primary_paren, primary_identity, primary_domain, primary_range, primary_call, AreArguments, last_argument, more_arguments}
use Rattle.cat_syntax.specs.Items.{AreSeparated, one, more}
use Rattle.cat_syntax.specs.Reading.{Reading, expected, infix_at, associates_left, postfix_at, applied, applied_at, next_operand, chain_right, right, left, Inner, separated, enclosed_with, arguments_with, opens_arguments, primary_with, postfix_with, unary_with, level_with, below, cut}
use Rattle.cat_syntax.proofs.Separated.{separated-sound}
use Rattle.cat_syntax.proofs.Symbols.{expected-ok, infix-some, joins-left, joins-right, if-none}

-- each level takes a symbol

mutual
  pub level-shorter : {k n : ℕ} {ts rest : List Symbol} {a : Term} → IsLevel k n ts rest a → length rest < length ts
  level-shorter (level_unary d) = unary-shorter d
  level-shorter (level_tighter d) = level-shorter d
  level-shorter (level_left d o e) = omega (arith, level-shorter d, level-shorter e)
  level-shorter (level_right d o e) = omega (arith, level-shorter d, level-shorter e)

  pub unary-shorter : {n : ℕ} {ts rest : List Symbol} {a : Term} → IsUnary n ts rest a → length rest < length ts
  unary-shorter (unary_complement d) = omega (arith, unary-shorter d)
  unary-shorter (unary_postfix d) = postfix-shorter d

  pub postfix-shorter : {n : ℕ} {ts rest : List Symbol} {a : Term} → IsPostfix n ts rest a → length rest < length ts
  postfix-shorter (postfix_primary d) = primary-shorter d
  postfix-shorter (postfix_plus d) = omega (arith, postfix-shorter d)
  postfix-shorter (postfix_star d f) = omega (arith, postfix-shorter d)
  postfix-shorter (postfix_optional d) = omega (arith, postfix-shorter d)
  postfix-shorter (postfix_inverse d) = omega (arith, postfix-shorter d)

  pub primary-shorter : {n : ℕ} {ts rest : List Symbol} {a : Term} → IsPrimary n ts rest a → length rest < length ts
  primary-shorter primary_name = omega arith
  primary-shorter primary_universe = omega arith
  primary-shorter primary_empty_relation = omega arith
  primary-shorter primary_empty_set = omega arith
  primary-shorter (primary_paren d) = omega (arith, level-shorter d)
  primary-shorter (primary_identity d) = omega (arith, level-shorter d)
  primary-shorter (primary_domain d) = omega (arith, level-shorter d)
  primary-shorter (primary_range d) = omega (arith, level-shorter d)
  primary-shorter (primary_call d) = omega (arith, arguments-shorter d)

  pub arguments-shorter : {n : ℕ} {ts rest : List Symbol} {bs : Terms} → AreArguments n ts rest bs → length rest < length ts
  arguments-shorter (last_argument d) = level-shorter d
  arguments-shorter (more_arguments d e) = omega (arith, level-shorter d, arguments-shorter e)

-- what r reads is so
abbrev pub Sound : {A : Type 0} → (List Symbol → Reading A) → (List Symbol → List Symbol → A → Type 0) → Type 0
Sound {A} r P = (ts rest : List Symbol) (a : A) → r ts ≡ Ok (a, rest) → P ts rest a

-- what nests one less than n deep
pub data Deeper (P : ℕ → List Symbol → List Symbol → Term → Type 0) : ℕ → List Symbol → List Symbol → Term → Type 0 where
  deeper : {n : ℕ} {ts rest : List Symbol} {a : Term} → P n ts rest a → Deeper P (suc n) ts rest a

pub record SoundInner (n : ℕ) (r : Inner) : Type 0 where
  pub level : (at : List Symbol) → Sound (r.level at) (Deeper (IsLevel 5) n)
  pub unary : (at : List Symbol) → Sound (r.unary at) (Deeper IsUnary n)

deeper-complement : {n : ℕ} {ts rest : List Symbol} {a : Term} → Deeper IsUnary n ts rest a → IsUnary n (Fixed Tilde ∷ ts) rest (complement a)
deeper-complement (deeper d) = unary_complement d

deeper-paren : {n : ℕ} {ts rest : List Symbol} {a : Term} → Deeper (IsLevel 5) n ts (Fixed RightParen ∷ rest) a → IsPrimary n (Fixed LeftParen ∷ ts) rest a
deeper-paren (deeper d) = primary_paren d

deeper-identity : {n : ℕ} {ts rest : List Symbol} {a : Term} → Deeper (IsLevel 5) n ts (Fixed RightBracket ∷ rest) a → IsPrimary n (Fixed LeftBracket ∷ ts) rest (identity a)
deeper-identity (deeper d) = primary_identity d

deeper-domain : {n : ℕ} {ts rest : List Symbol} {a : Term} → Deeper (IsLevel 5) n ts (Fixed RightParen ∷ rest) a → IsPrimary n (Fixed Domain ∷ Fixed LeftParen ∷ ts) rest (domain a)
deeper-domain (deeper d) = primary_domain d

deeper-range : {n : ℕ} {ts rest : List Symbol} {a : Term} → Deeper (IsLevel 5) n ts (Fixed RightParen ∷ rest) a → IsPrimary n (Fixed Range ∷ Fixed LeftParen ∷ ts) rest (range a)
deeper-range (deeper d) = primary_range d

shallow-at : {m n : ℕ} {ts rest : List Symbol} {a : Term} → Deeper (IsLevel 5) m ts rest a → m ≡ suc n → IsLevel 5 n ts rest a
shallow-at {n = n} {ts = ts} {rest = rest} {a = a} (deeper {n = k} d) e =
    let same : k ≡ n = cc in
    subst (λ m. IsLevel 5 m ts rest a) same d

shallow-arguments : {n : ℕ} {ts rest : List Symbol} {as' : List Term} → AreSeparated Comma (Deeper (IsLevel 5) (suc n)) ts rest as' → AreArguments n ts rest (terms_of as')
shallow-arguments (one d) = last_argument (shallow-at d refl)
shallow-arguments (more d ds) = more_arguments (shallow-at d refl) (shallow-arguments ds)

not-deeper : {m : ℕ} {ts rest : List Symbol} {a : Term} → Deeper (IsLevel 5) m ts rest a → m ≡ zero → ⊥
not-deeper (deeper d) e = cc

none-deeper : {ts rest : List Symbol} {as' : List Term} → AreSeparated Comma (Deeper (IsLevel 5) zero) ts rest as' → ⊥
none-deeper (one d) = not-deeper d refl
none-deeper (more d ds) = not-deeper d refl

deeper-call : (n : ℕ) {f : List ℕ} {ts rest : List Symbol} {as' : List Term} → AreSeparated Comma (Deeper (IsLevel 5) n) ts (Fixed RightParen ∷ rest) as' → IsPrimary n (Name f ∷ Fixed LeftParen ∷ ts) rest (call f (terms_of as'))
deeper-call zero d = absurd (none-deeper d)
deeper-call (suc n) d = primary_call (shallow-arguments d)

postfix-step : {n : ℕ} {ts : List Symbol} {a : Term} (us mid : List Symbol) (o : Postfix) → IsPostfix n ts us a → postfix_at us ≡ Some (o, mid) → IsPostfix n ts mid (applied o a)
unfolding postfix_at
postfix-step {n} {ts} {a} (Fixed Plus ∷ us) mid o d e = moved_look (λ l p. IsPostfix n ts l (applied p a)) e (postfix_plus d)
postfix-step {n} {ts} {a} (Fixed Star ∷ us) mid o d e =
    let f = if-none (begins_operand us) _ _ e in
    moved_look (λ l p. IsPostfix n ts l (applied p a)) f.1 (postfix_star d f.0)
postfix-step {n} {ts} {a} (Fixed Question ∷ us) mid o d e = moved_look (λ l p. IsPostfix n ts l (applied p a)) e (postfix_optional d)
postfix-step {n} {ts} {a} (Fixed Inverse ∷ us) mid o d e = moved_look (λ l p. IsPostfix n ts l (applied p a)) e (postfix_inverse d)
postfix-step us mid o d e = absurd (cc)

module _ (n : ℕ) (r : Inner) (inner : SoundInner n r) where
  enclosed-sound : (opening closing : Terminal) (ts rest : List Symbol) (a : Term) → enclosed_with r opening closing ts ≡ Ok (a, rest) →
      (mid : List Symbol) × (ts ≡ Fixed opening ∷ mid) × Deeper (IsLevel 5) n mid (Fixed closing ∷ rest) a
  unfolding enclosed_with
  enclosed-sound opening closing ts rest a e =
      let x = bind_ok (expected opening ts) _ _ e in
      let b = bind_ok (r.level ts x.0.1) _ _ x.2 in
      let y = bind_ok (expected closing b.0.1) _ _ b.2 in
      moved (λ l t. (mid : List Symbol) × (ts ≡ Fixed opening ∷ mid) × Deeper (IsLevel 5) n mid (Fixed closing ∷ l) t) y.2
      (x.0.1, expected-ok opening ts x.0.1 x.0.0 x.1, subst (λ l. Deeper (IsLevel 5) n x.0.1 l b.0.0) (expected-ok closing b.0.1 y.0.1 y.0.0 y.1) (inner.level ts x.0.1 b.0.1 b.0.0 b.1))

  arguments-sound : (ts rest : List Symbol) (as' : List Term) → arguments_with r ts ≡ Ok (as', rest) → (mid : List Symbol) × (ts ≡ Fixed LeftParen ∷ mid) × AreSeparated Comma (Deeper (IsLevel 5) n) mid (Fixed RightParen ∷ rest) as'
  unfolding arguments_with
  arguments-sound ts rest as' e =
      let x = bind_ok (expected LeftParen ts) _ _ e in
      let b = bind_ok (separated Comma (λ _. r.level ts) x.0.1) _ _ x.2 in
      let y = bind_ok (expected RightParen b.0.1) _ _ b.2 in
      moved (λ l t. (mid : List Symbol) × (ts ≡ Fixed LeftParen ∷ mid) × AreSeparated Comma (Deeper (IsLevel 5) n) mid (Fixed RightParen ∷ l) t) y.2 (
        x.0.1,
        expected-ok LeftParen ts x.0.1 x.0.0 x.1,
        subst (λ l. AreSeparated Comma (Deeper (IsLevel 5) n) x.0.1 l b.0.0) (expected-ok RightParen b.0.1 y.0.1 y.0.0 y.1)
            (separated-sound Comma (Deeper (IsLevel 5) n) (λ _. r.level ts) (λ _. Unit {0}) tt (λ xs us back c k f. (inner.level ts us back c f, tt)) x.0.1 b.0.1 b.0.0 b.1).0,
      )

  primary-sound : Sound (primary_with r) (IsPrimary n)
  unfolding primary_with
  primary-sound (Name x ∷ ts) rest a e =
      elim (chosen (opens_arguments ts) _ _ _ e) [
        | inl h ↦
            let y = bind_ok (arguments_with r ts) _ _ h.1 in
            let d = arguments-sound ts y.0.1 y.0.0 y.1 in
            moved (λ l t. IsPrimary n (Name x ∷ ts) l t) y.2 (subst (λ l. IsPrimary n (Name x ∷ l) y.0.1 (call x (terms_of y.0.0))) (sym d.1) (deeper-call n d.2))
        | inr h ↦ moved (λ l t. IsPrimary n (Name x ∷ ts) l t) h.1 primary_name
      ]
  primary-sound (Fixed Underscore ∷ ts) rest a e = moved (λ l t. IsPrimary n (Fixed Underscore ∷ ts) l t) e primary_universe
  primary-sound (Fixed Zero ∷ ts) rest a e = moved (λ l t. IsPrimary n (Fixed Zero ∷ ts) l t) e primary_empty_relation
  primary-sound (Fixed LeftBrace ∷ ts) rest a e =
      let y = bind_ok (expected RightBrace ts) _ _ e in
      subst (λ l. IsPrimary n (Fixed LeftBrace ∷ l) rest a) (sym (expected-ok RightBrace ts y.0.1 y.0.0 y.1))
      (moved (λ l t. IsPrimary n (Fixed LeftBrace ∷ Fixed RightBrace ∷ y.0.1) l t) y.2 primary_empty_set)
  primary-sound (Fixed LeftParen ∷ ts) rest a e =
      let x = enclosed-sound LeftParen RightParen (Fixed LeftParen ∷ ts) rest a e in
      subst (λ l. IsPrimary n l rest a) (sym x.1) (deeper-paren x.2)
  primary-sound (Fixed LeftBracket ∷ ts) rest a e =
      let y = bind_ok (enclosed_with r LeftBracket RightBracket (Fixed LeftBracket ∷ ts)) _ _ e in
      let x = enclosed-sound LeftBracket RightBracket (Fixed LeftBracket ∷ ts) y.0.1 y.0.0 y.1 in
      moved (λ l t. IsPrimary n (Fixed LeftBracket ∷ ts) l t) y.2 (subst (λ l. IsPrimary n l y.0.1 (identity y.0.0)) (sym x.1) (deeper-identity x.2))
  primary-sound (Fixed Domain ∷ ts) rest a e =
      let y = bind_ok (enclosed_with r LeftParen RightParen ts) _ _ e in
      let x = enclosed-sound LeftParen RightParen ts y.0.1 y.0.0 y.1 in
      moved (λ l t. IsPrimary n (Fixed Domain ∷ ts) l t) y.2 (subst (λ l. IsPrimary n (Fixed Domain ∷ l) y.0.1 (domain y.0.0)) (sym x.1) (deeper-domain x.2))
  primary-sound (Fixed Range ∷ ts) rest a e =
      let y = bind_ok (enclosed_with r LeftParen RightParen ts) _ _ e in
      let x = enclosed-sound LeftParen RightParen ts y.0.1 y.0.0 y.1 in
      moved (λ l t. IsPrimary n (Fixed Range ∷ ts) l t) y.2 (subst (λ l. IsPrimary n (Fixed Range ∷ l) y.0.1 (range y.0.0)) (sym x.1) (deeper-range x.2))
  primary-sound ts rest a e = absurd (cc)

  postfix-sound : Sound (postfix_with r) (IsPostfix n)
  unfolding postfix_with
  postfix-sound ts rest a e =
      let x = bind_ok (primary_with r ts) _ _ e in
      repeated-keeps cut postfix_at applied_at (λ l t. IsPostfix n ts l t)
      (λ o us mid back b c d was f. moved (λ l t. IsPostfix n ts l t) f (postfix-step us mid o d was))
      x.0.0 x.0.1 a rest (postfix_primary (primary-sound ts x.0.1 x.0.0 x.1)) x.2

  unary-sound : Sound (unary_with r) (IsUnary n)
  unfolding unary_with
  unary-sound (Fixed Tilde ∷ ts) rest a e =
      let x = bind_ok (r.unary (Fixed Tilde ∷ ts) ts) _ _ e in
      moved (λ l t. IsUnary n (Fixed Tilde ∷ ts) l t) x.2 (deeper-complement (inner.unary (Fixed Tilde ∷ ts) ts x.0.1 x.0.0 x.1))
  unary-sound ts rest a e = unary_postfix (postfix-sound ts rest a e)

  left-sound : (k : ℕ) → associates_left k ≡ true → Sound (level_with r k) (IsLevel k n) → Sound (left (infix_at k) (level_with r k)) (IsLevel (suc k) n)
  unfolding left
  left-sound k h sound ts rest a e =
      let x = bind_ok (level_with r k ts) _ _ e in
      repeated-keeps cut (infix_at k) (next_operand (level_with r k)) (λ l t. IsLevel (suc k) n ts l t)
      (λ o us mid back b c d was f.
      let g = bind_ok (level_with r k mid) _ _ f in
      let t = infix-some k us mid o was in
      moved (λ l t. IsLevel (suc k) n ts l t) g.2 (level_left (subst (λ l. IsLevel (suc k) n ts l b) t.1 d) (joins-left t.2 h) (sound mid g.0.1 g.0.0 g.1)))
      x.0.0 x.0.1 a rest (level_tighter (sound ts x.0.1 x.0.0 x.1)) x.2

  chain-sound : (k : ℕ) → associates_left k ≡ false → Sound (level_with r k) (IsLevel k n) → (m : ℕ) → Sound (chain_right (infix_at k) (level_with r k) m) (IsLevel (suc k) n)
  unfolding chain_right
  chain-sound k h sound zero ts rest a e = absurd (cc)
  chain-sound k h sound (suc m) ts rest a e =
      let x = bind_ok (level_with r k ts) _ _ e in
      let d = sound ts x.0.1 x.0.0 x.1 in
      elim (cases_of (infix_at k x.0.1) _ _ _ x.2) [
        | inl s ↦ moved (λ l t. IsLevel (suc k) n ts l t) s.1 (level_tighter d)
        | inr (o, was, f) ↦
            let y = bind_ok (chain_right (infix_at k) (level_with r k) m o.1) _ _ f in
            let t = infix-some k x.0.1 o.1 o.0 was in
            moved (λ l t. IsLevel (suc k) n ts l t) y.2 (level_right (subst (λ l. IsLevel k n ts l x.0.0) t.1 d) (joins-right t.2 h) (chain-sound k h sound m o.1 y.0.1 y.0.0 y.1))
      ]

  right-sound : (k : ℕ) → associates_left k ≡ false → Sound (level_with r k) (IsLevel k n) → Sound (right (infix_at k) (level_with r k)) (IsLevel (suc k) n)
  unfolding right
  right-sound k h sound ts = chain-sound k h sound (suc (length ts)) ts

  pub level-sound : (k : ℕ) → Sound (level_with r k) (IsLevel k n)
  unfolding level_with
  level-sound zero ts rest a e = level_unary (unary-sound ts rest a e)
  level-sound (suc k) ts rest a e =
      elim (cases_Bool (associates_left k)) [
        | inl h ↦ left-sound k h (level-sound k) ts rest a (rw h at e)
        | inr h ↦ right-sound k h (level-sound k) ts rest a (rw h at e)
      ]

below-sound : (n : ℕ) → SoundInner n (below n)
unfolding below
below-sound zero = record { level = λ at ts rest a e. absurd (cc); unary = λ at ts rest a e. absurd (cc) }
below-sound (suc n) = record {
  level = λ at ts rest a e. deeper (level-sound n (below n) (below-sound n) 5 ts rest a e);
  unary = λ at ts rest a e. deeper (unary-sound n (below n) (below-sound n) ts rest a e);
}

pub level_is : (n k : ℕ) → Sound (level_with (below n) k) (IsLevel k n)
level_is n k = level-sound n (below n) (below-sound n) k
