-- Statements: what is read is in the grammar, and what is in the grammar is read.
use Rattle.std.proofs.Common.{◌≡◌, ℕ, zero, suc, ◌<◌, ◌≤◌, List, [], ◌∷◌, length, sym, subst, arith, inl, inr, refl, ap}
use Rattle.std.specs.Prelude.{◌++◌, Some, None, Ok}
use Rattle.descent.specs.Reading.{match_option, ◌>>=◌, repeated}
use Rattle.descent.proofs.Tools.{bind_ok, cases_of, none_or_some, moved, Yields, Shows}
use Rattle.descent.proofs.Turns.{repeated-keeps, repeated-more, items-more, Arrives, last, next}
use Rattle.litmus_syntax.specs.declared.atomics.Operation.{Operation}
use Rattle.litmus_syntax.specs.declared.symbol.Symbol.{Symbol}
use Rattle.litmus_syntax.specs.declared.symbol.Symbol.TheVariants.{Fixed, Call, Name}
use Rattle.litmus_syntax.specs.declared.symbol.Terminal.{Terminal}
use Rattle.litmus_syntax.specs.declared.symbol.Terminal.TheVariants.{Int, If, Else, LeftParen, RightParen, LeftBrace, RightBrace, Semicolon, Comma, Assign, Star}
use Rattle.litmus_syntax.specs.Grammar.{IsExpression, IsDeclarator, declarator_bare, declarator_value, IsDeclarators, declarators_one, declarators_more as declarators_and, IsSimple, simple_declare, simple_assign, simple_write, simple_perform, NotNext, IsStep, step_empty, step_block, step_simple, step_if, step_else, IsSteps, steps_none, steps_more as steps_and}
use Rattle.litmus_syntax.specs.Reading.{syntax, after, expected, unless, name_at, before_name, call_word, expression_at, operation_at, right_at, declarator_at, declarators_more, declarators_at, assignment_at, write_at, declaration_at, performed_at, simple_at, closed_at, Inside, else_with, if_with, block_with, step_with, steps_more, steps_with, inside, step_at, steps_at}
use Rattle.litmus_tree.specs.Tree.{Word, Term, Action, Right, Declared, Step, empty, block, declare, assign, plain_write, perform, if_only, if_else, Steps, no_steps, followed}
use Rattle.litmus_syntax.proofs.Calls.{operation-sound, right-sound, call_shorter, right_shorter, call-complete, right-complete, after-call, call_word-first}
use Rattle.litmus_syntax.proofs.Expressions.{Ends, level_shorter, expression-sound, expression-complete, paren-ends, comma-ends, semicolon-ends}
use Rattle.litmus_syntax.proofs.Sounds.{Sound, Deeper, deeper}
use Rattle.litmus_syntax.proofs.SingleSymbols.{after-some, after-first, after_takes, after-none, expected-ok, expected-first, unless-same, name-ok, name-not, call_word-some, before_name-same}

-- Declarations.

declarator_shorter : {n : ℕ} {ts rest : List Symbol} {d : Declared} → IsDeclarator n ts rest d → length rest < length ts
declarator_shorter declarator_bare = omega arith
declarator_shorter (declarator_value d) = omega (arith, right_shorter d)

declarators_shorter : {n : ℕ} {ts rest : List Symbol} {ds : List Declared} → IsDeclarators n ts rest ds → length rest < length ts
declarators_shorter (declarators_one d) = declarator_shorter d
declarators_shorter (declarators_and d e) = omega (arith, declarators_shorter d, declarator_shorter e)

pub declarator-sound : (n : ℕ) → Sound (declarator_at n) (IsDeclarator n)
unfolding declarator_at
declarator-sound n ts rest d e =
    let x = bind_ok (name_at ts) _ _ e in
    let named : ts ≡ Name x.0.0 ∷ x.0.1 = name-ok ts x.0.1 x.0.0 x.1 in
    subst (λ l. IsDeclarator n l rest d) (sym named) (elim (cases_of (after Assign x.0.1) _ _ _ x.2) [
      | inl g ↦ moved (λ l t. IsDeclarator n (Name x.0.0 ∷ x.0.1) l t) g.1 declarator_bare
      | inr (y, was, g) ↦
          let v = bind_ok (right_at n y.1) _ _ g in
          subst (λ l. IsDeclarator n (Name x.0.0 ∷ l) rest d) (sym (after-some Assign x.0.1 y.1 y.0 was))
          (moved (λ l t. IsDeclarator n (Name x.0.0 ∷ Fixed Assign ∷ y.1) l t) v.2 (declarator_value (right-sound n y.1 v.0.1 v.0.0 v.1)))
    ])

declarators-sound : (n : ℕ) → Sound (declarators_at n) (IsDeclarators n)
unfolding declarators_at declarators_more
declarators-sound n ts rest ds e =
    let x = bind_ok (declarator_at n ts >>= λ d. Ok ([] ++ d.0 ∷ [], d.1)) _ _ e in
    let p = bind_ok (declarator_at n ts) _ _ x.1 in
    repeated-keeps (syntax 0) (after Comma) (λ _ ds us. declarators_more n ds us) (λ l t. IsDeclarators n ts l t)
    (λ o us mid back a b d was f.
    let q = bind_ok (declarator_at n mid) _ _ f in
    moved (λ l t. IsDeclarators n ts l t) q.2 (declarators_and (subst (λ l. IsDeclarators n ts l a) (after-some Comma us mid o was) d) (declarator-sound n mid q.0.1 q.0.0 q.1)))
    x.0.0 x.0.1 ds rest
    (moved (λ l t. IsDeclarators n ts l t) p.2 (declarators_one (declarator-sound n ts p.0.1 p.0.0 p.1)))
    x.2

pub declarators_turn_takes : (n : ℕ) (ts mid rest : List Symbol) (o : Unit {0}) (a b : List Declared) → after Comma ts ≡ Some (o, mid) → declarators_more n a mid ≡ Ok (b, rest) → length rest < length ts
unfolding declarators_more
declarators_turn_takes n ts mid rest o a b e f =
    let x = bind_ok (declarator_at n mid) _ _ f in
    moved (λ l t. length l < length ts) x.2 (omega (arith, after_takes Comma ts mid o e, declarator_shorter (declarator-sound n mid x.0.1 x.0.0 x.1)))

pub declarators_turn : (n : ℕ) (a : List Declared) (ts : List Symbol) →
    repeated (syntax 0) (after Comma) (λ _ ds us. declarators_more n ds us) a ts ≡
    match_option (after Comma ts) (Ok (a, ts)) (λ x. declarators_more n a x.1 >>= λ y. repeated (syntax 0) (after Comma) (λ _ ds us. declarators_more n ds us) y.0 y.1)
declarators_turn n = repeated-more (syntax 0) (after Comma) (λ _ ds us. declarators_more n ds us) (declarators_turn_takes n)

pub declarators_loop_takes : (n : ℕ) (ts mid rest : List Symbol) (d : Declared) → declarator_at n ts ≡ Ok (d, mid) → after Comma mid ≡ Some (tt, rest) → length rest < length ts
declarators_loop_takes n ts mid rest d f e = omega (arith, after_takes Comma mid rest tt e, declarator_shorter (declarator-sound n ts mid d f))

-- what follows a right side
record EndsRight (rest : List Symbol) : Type 0 where
  no_value : after Assign rest ≡ None
  no_operator : Ends 3 rest

comma-after : (rest : List Symbol) → EndsRight (Fixed Comma ∷ rest)
unfolding after
comma-after rest = record { no_value = refl; no_operator = comma-ends 3 rest }

semicolon-after : (rest : List Symbol) → EndsRight (Fixed Semicolon ∷ rest)
unfolding after
semicolon-after rest = record { no_value = refl; no_operator = semicolon-ends 3 rest }

declarator-complete : {n : ℕ} {ts rest : List Symbol} {d : Declared} → IsDeclarator n ts rest d → EndsRight rest → Yields (declarator_at n) ts rest d
unfolding declarator_at name_at
declarator-complete declarator_bare ends = record { is = rw ends.no_value }
declarator-complete (declarator_value {ts = ts} d) ends = record { is = rw (after-first Assign ts, (right-complete d ends.no_operator).is) }

declarator-more : (n : ℕ) (ds : List Declared) {ts rest : List Symbol} {d : Declared} → Yields (declarator_at n) ts rest d → Yields (declarators_more n ds) ts rest (ds ++ d ∷ [])
unfolding declarators_more
declarator-more n ds y = record { is = rw y.is }

abbrev DeclaratorsTo : ℕ → List Symbol → List Symbol → List Declared → Type 0
DeclaratorsTo n ts rest ds = Arrives (syntax 0) (after Comma) (λ _ ds us. declarators_more n ds us) (declarators_at n) ts rest ds

declarators-first : (n : ℕ) {ts rest : List Symbol} {ds : List Declared} → Yields (declarators_more n []) ts rest ds → DeclaratorsTo n ts rest ds
unfolding declarators_at
declarators-first n y = record { is = rw y.is }

comma : (ts : List Symbol) → Shows (after Comma) (Fixed Comma ∷ ts) ts tt
comma ts = record { is = after-first Comma ts }

declarators-next : (n : ℕ) {ts mid rest : List Symbol} {ds es : List Declared} → DeclaratorsTo n ts (Fixed Comma ∷ mid) ds → Yields (declarators_more n ds) mid rest es → DeclaratorsTo n ts rest es
declarators-next n {mid = mid} s y = next (syntax 0) (after Comma) (λ _ ds us. declarators_more n ds us) (declarators_turn_takes n) s (comma mid) y

declarators-arrive : {n : ℕ} {ts rest : List Symbol} {ds : List Declared} → IsDeclarators n ts rest ds → EndsRight rest → DeclaratorsTo n ts rest ds
declarators-arrive (declarators_one {n} d) ends = declarators-first n (declarator-more n [] (declarator-complete d ends))
declarators-arrive (declarators_and {n} {mid = mid} {ds = ds} d e) ends = declarators-next n (declarators-arrive d (comma-after mid)) (declarator-more n ds (declarator-complete e ends))

no_comma : (ts : List Symbol) → after Comma (Fixed Semicolon ∷ ts) ≡ None
unfolding after
no_comma ts = refl

declarators-complete : {n : ℕ} {ts rest : List Symbol} {ds : List Declared} → IsDeclarators n ts rest ds → EndsRight rest → after Comma rest ≡ None → Yields (declarators_at n) ts rest ds
declarators-complete d ends none = last (declarators-arrive d ends) none

-- Simple statements.

simple_shorter : {n : ℕ} {ts rest : List Symbol} {s : Step} → IsSimple n ts rest s → length rest < length ts
simple_shorter (simple_declare d) = omega (arith, declarators_shorter d)
simple_shorter (simple_assign d) = omega (arith, right_shorter d)
simple_shorter (simple_write d) = omega (arith, level_shorter d)
simple_shorter (simple_perform d) = call_shorter d

assignment-sound : (n : ℕ) → Sound (assignment_at n) (IsSimple n)
unfolding assignment_at
assignment-sound n ts rest s e =
    let x = bind_ok (name_at ts) _ _ e in
    let y = bind_ok (expected Assign x.0.1) _ _ x.2 in
    let v = bind_ok (right_at n y.0.1) _ _ y.2 in
    let b : ts ≡ Name x.0.0 ∷ x.0.1 = name-ok ts x.0.1 x.0.0 x.1 in
    let c : x.0.1 ≡ Fixed Assign ∷ y.0.1 = expected-ok Assign x.0.1 y.0.1 y.0.0 y.1 in
    let same : ts ≡ Name x.0.0 ∷ Fixed Assign ∷ y.0.1 = cc in
    subst (λ l. IsSimple n l rest s) (sym same) (moved (λ l t. IsSimple n (Name x.0.0 ∷ Fixed Assign ∷ y.0.1) l t) v.2 (simple_assign (right-sound n y.0.1 v.0.1 v.0.0 v.1)))

write-sound : (n : ℕ) → Sound (write_at n) (λ ts rest s. IsSimple n (Fixed Star ∷ ts) rest s)
unfolding write_at
write-sound n ts rest s e =
    let x = bind_ok (name_at ts) _ _ e in
    let y = bind_ok (expected Assign x.0.1) _ _ x.2 in
    let v = bind_ok (expression_at n y.0.1) _ _ y.2 in
    let b : ts ≡ Name x.0.0 ∷ x.0.1 = name-ok ts x.0.1 x.0.0 x.1 in
    let c : x.0.1 ≡ Fixed Assign ∷ y.0.1 = expected-ok Assign x.0.1 y.0.1 y.0.0 y.1 in
    let same : ts ≡ Name x.0.0 ∷ Fixed Assign ∷ y.0.1 = cc in
    subst (λ l. IsSimple n (Fixed Star ∷ l) rest s) (sym same) (moved (λ l t. IsSimple n (Fixed Star ∷ Name x.0.0 ∷ Fixed Assign ∷ y.0.1) l t) v.2 (simple_write (expression-sound n y.0.1 v.0.1 v.0.0 v.1)))

declaration-sound : (n : ℕ) → Sound (declaration_at n) (λ ts rest s. IsSimple n (Fixed Int ∷ ts) rest s)
unfolding declaration_at
declaration-sound n ts rest s e =
    let ds = bind_ok (declarators_at n ts) _ _ e in
    moved (λ l t. IsSimple n (Fixed Int ∷ ts) l t) ds.2 (simple_declare (declarators-sound n ts ds.0.1 ds.0.0 ds.1))

performed-sound : (n : ℕ) → Sound (performed_at n) (IsSimple n)
unfolding performed_at
performed-sound n ts rest s e =
    elim (cases_of (call_word ts) _ _ _ e) [
      | inl g ↦ let h = g.1 in absurd (cc)
      | inr (c, was, f) ↦
          let a = bind_ok (operation_at c.0 n c.1) _ _ f in
          subst (λ l. IsSimple n l rest s) (sym (call_word-some ts c.1 c.0 was)) (moved (λ l t. IsSimple n (Call c.0 ∷ c.1) l t) a.2 (simple_perform (operation-sound c.0 n c.1 a.0.1 a.0.0 a.1)))
    ]

simple-sound : (n : ℕ) → Sound (simple_at n) (IsSimple n)
unfolding simple_at
simple-sound n ts rest s e =
    elim (cases_of (after Int ts) _ _ _ e) [
      | inl h ↦ elim (cases_of (after Star ts) _ _ _ h.1) [
        | inl g ↦ elim (cases_of (before_name ts) _ _ _ g.1) [
          | inl f ↦ performed-sound n ts rest s f.1
          | inr (y, was, f) ↦ subst (λ l. IsSimple n l rest s) (before_name-same ts y.1 y.0 was) (assignment-sound n y.1 rest s f)
        ]
        | inr (y, was, g) ↦ subst (λ l. IsSimple n l rest s) (sym (after-some Star ts y.1 y.0 was)) (write-sound n y.1 rest s g)
      ]
      | inr (y, was, g) ↦ subst (λ l. IsSimple n l rest s) (sym (after-some Int ts y.1 y.0 was)) (declaration-sound n y.1 rest s g)
    ]

-- Statements.

pub record SoundInside (n : ℕ) (r : Inside) : Type 0 where
  pub expression : Sound r.expression (Deeper IsExpression n)
  pub statement : Sound r.statement (Deeper IsStep n)
  pub statements : Sound r.statements (Deeper (λ m ts rest ss. IsSteps m ts (Fixed RightBrace ∷ rest) ss) n)

deeper-block : {n : ℕ} {ts rest : List Symbol} {ss : Steps} → Deeper (λ m ts rest ss. IsSteps m ts (Fixed RightBrace ∷ rest) ss) n ts rest ss → IsStep n (Fixed LeftBrace ∷ ts) rest (block ss)
deeper-block (deeper d) = step_block d

deeper-if : {n : ℕ} {ts mid rest : List Symbol} {c : Term} {a : Step} → Deeper IsExpression n ts (Fixed RightParen ∷ mid) c → Deeper IsStep n mid rest a → NotNext Else rest →
    IsStep n (Fixed If ∷ Fixed LeftParen ∷ ts) rest (if_only c a)
deeper-if (deeper c) (deeper a) ends = step_if c a ends

deeper-else : {n : ℕ} {ts mid more rest : List Symbol} {c : Term} {a b : Step} → Deeper IsExpression n ts (Fixed RightParen ∷ mid) c → Deeper IsStep n mid (Fixed Else ∷ more) a → Deeper IsStep n more rest b →
    IsStep n (Fixed If ∷ Fixed LeftParen ∷ ts) rest (if_else c a b)
deeper-else (deeper c) (deeper a) (deeper b) = step_else c a b

module _ (n : ℕ) (r : Inside) (inner : SoundInside n r) where
  else-sound : (ts mid rest : List Symbol) (c : Term) (a s : Step) → Deeper IsExpression n ts (Fixed RightParen ∷ mid) c → (us : List Symbol) → Deeper IsStep n mid us a →
      else_with r c a us ≡ Ok (s, rest) → IsStep n (Fixed If ∷ Fixed LeftParen ∷ ts) rest s
  unfolding else_with
  else-sound ts mid rest c a s d us f e =
      elim (cases_of (after Else us) _ _ _ e) [
        | inl g ↦ moved (λ l t. IsStep n (Fixed If ∷ Fixed LeftParen ∷ ts) l t) g.1 (deeper-if d f (λ more. after-none Else us more g.0))
        | inr (y, was, g) ↦
            let z = bind_ok (r.statement y.1) _ _ g in
            moved (λ l t. IsStep n (Fixed If ∷ Fixed LeftParen ∷ ts) l t) z.2
            (deeper-else d (subst (λ l. Deeper IsStep n mid l a) (after-some Else us y.1 y.0 was) f) (inner.statement y.1 z.0.1 z.0.0 z.1))
      ]

  if-sound : Sound (if_with r) (λ ts rest s. IsStep n (Fixed If ∷ ts) rest s)
  unfolding if_with
  if-sound ts rest s e =
      let x = bind_ok (expected LeftParen ts) _ _ e in
      let c = bind_ok (r.expression x.0.1) _ _ x.2 in
      let y = bind_ok (expected RightParen c.0.1) _ _ c.2 in
      let a = bind_ok (r.statement y.0.1) _ _ y.2 in
      subst (λ l. IsStep n (Fixed If ∷ l) rest s) (sym (expected-ok LeftParen ts x.0.1 x.0.0 x.1))
      (else-sound x.0.1 y.0.1 rest c.0.0 a.0.0 s (subst (λ l. Deeper IsExpression n x.0.1 l c.0.0) (expected-ok RightParen c.0.1 y.0.1 y.0.0 y.1) (inner.expression x.0.1 c.0.1 c.0.0 c.1)) a.0.1 (inner.statement y.0.1 a.0.1 a.0.0 a.1) a.2)

  step-sound : Sound (step_with r n) (IsStep n)
  unfolding step_with block_with closed_at
  step-sound ts rest s e =
      elim (cases_of (after Semicolon ts) _ _ _ e) [
        | inl g ↦ elim (cases_of (after LeftBrace ts) _ _ _ g.1) [
          | inl h ↦ elim (cases_of (after If ts) _ _ _ h.1) [
            | inl f ↦
                let x = bind_ok (simple_at n ts) _ _ f.1 in
                let y = bind_ok (expected Semicolon x.0.1) _ _ x.2 in
                moved (λ l t. IsStep n ts l t) y.2 (step_simple (subst (λ l. IsSimple n ts l x.0.0) (expected-ok Semicolon x.0.1 y.0.1 y.0.0 y.1) (simple-sound n ts x.0.1 x.0.0 x.1)))
            | inr (y, was, f) ↦ subst (λ l. IsStep n l rest s) (sym (after-some If ts y.1 y.0 was)) (if-sound y.1 rest s f)
          ]
          | inr (y, was, h) ↦
              let x = bind_ok (r.statements y.1) _ _ h in
              subst (λ l. IsStep n l rest s) (sym (after-some LeftBrace ts y.1 y.0 was)) (moved (λ l t. IsStep n (Fixed LeftBrace ∷ y.1) l t) x.2 (deeper-block (inner.statements y.1 x.0.1 x.0.0 x.1)))
        ]
        | inr (y, was, g) ↦ moved (λ l t. IsStep n ts l t) g (subst (λ l. IsStep n l y.1 empty) (sym (after-some Semicolon ts y.1 y.0 was)) step_empty)
      ]

  steps-sound : Sound (steps_with r n) (λ ts rest ss. IsSteps n ts (Fixed RightBrace ∷ rest) ss)
  unfolding steps_with steps_more
  steps-sound ts rest ss e =
      let x = bind_ok (repeated (syntax 0) (unless RightBrace) (steps_more r n) no_steps ts) _ _ e in
      let y = bind_ok (expected RightBrace x.0.1) _ _ x.2 in
      moved (λ l t. IsSteps n ts (Fixed RightBrace ∷ l) t) y.2
      (subst (λ l. IsSteps n ts l x.0.0) (expected-ok RightBrace x.0.1 y.0.1 y.0.0 y.1)
      (repeated-keeps (syntax 0) (unless RightBrace) (steps_more r n) (λ l t. IsSteps n ts l t)
      (λ o us mid back a b d was f.
      let s = bind_ok (step_with r n mid) _ _ f in
      moved (λ l t. IsSteps n ts l t) s.2 (steps_and d (subst (λ l. IsStep n l s.0.1 s.0.0) (unless-same RightBrace us mid o was) (step-sound mid s.0.1 s.0.0 s.1))))
      no_steps ts x.0.0 x.0.1 steps_none x.1))

pub inside-sound : (n : ℕ) → SoundInside n (inside n)
unfolding inside
inside-sound zero = record { expression = λ ts rest a e. absurd (cc); statement = λ ts rest a e. absurd (cc); statements = λ ts rest a e. absurd (cc) }
inside-sound (suc n) = record {
  expression = λ ts rest a e. deeper (expression-sound n ts rest a e);
  statement = λ ts rest a e. deeper (step-sound n (inside n) (inside-sound n) ts rest a e);
  statements = λ ts rest a e. deeper (steps-sound n (inside n) (inside-sound n) ts rest a e);
}

pub step_is : (n : ℕ) → Sound (step_at n) (IsStep n)
step_is n = step-sound n (inside n) (inside-sound n)

pub steps_are : (n : ℕ) → Sound (steps_at n) (λ ts rest ss. IsSteps n ts (Fixed RightBrace ∷ rest) ss)
steps_are n = steps-sound n (inside n) (inside-sound n)

-- each takes a symbol; statements may take none

mutual
  step_shorter : {n : ℕ} {ts rest : List Symbol} {s : Step} → IsStep n ts rest s → length rest < length ts
  step_shorter step_empty = omega arith
  step_shorter (step_block d) = omega (arith, steps_shorter d)
  step_shorter (step_simple d) = omega (arith, simple_shorter d)
  step_shorter (step_if d e ends) = omega (arith, level_shorter d, step_shorter e)
  step_shorter (step_else d e f) = omega (arith, level_shorter d, step_shorter e, step_shorter f)

  pub steps_shorter : {n : ℕ} {ts rest : List Symbol} {ss : Steps} → IsSteps n ts rest ss → length rest ≤ length ts
  steps_shorter steps_none = omega arith
  steps_shorter (steps_and d e) = omega (arith, steps_shorter d, step_shorter e)

pub step_takes : (n : ℕ) (ts rest : List Symbol) (s : Step) → step_at n ts ≡ Ok (s, rest) → length rest < length ts
step_takes n ts rest s e = step_shorter (step_is n ts rest s e)

pub steps_turn_takes : (n : ℕ) (ts mid rest : List Symbol) (o : Unit {0}) (a b : Steps) → unless RightBrace ts ≡ Some (o, mid) → steps_more (inside n) n o a mid ≡ Ok (b, rest) → length rest < length ts
unfolding steps_more
steps_turn_takes n ts mid rest o a b e f =
    let x = bind_ok (step_at n mid) _ _ f in
    moved (λ l t. length l < length ts) x.2 (omega (arith, ap length (unless-same RightBrace ts mid o e), step_takes n mid x.0.1 x.0.0 x.1))

pub steps_turn : (n : ℕ) (a : Steps) (ts : List Symbol) →
    repeated (syntax 0) (unless RightBrace) (steps_more (inside n) n) a ts ≡
    match_option (unless RightBrace ts) (Ok (a, ts)) (λ x. step_at n x.1 >>= λ y. repeated (syntax 0) (unless RightBrace) (steps_more (inside n) n) (followed a y.0) y.1)
unfolding steps_more
steps_turn n = items-more (syntax 0) (unless RightBrace) (steps_more (inside n) n) (steps_turn_takes n) (λ _ ts. step_at n ts) followed (λ o a ts. refl)

-- Completeness.

name-before : (x : Word) (ts : List Symbol) → before_name (Name x ∷ ts) ≡ Some (tt, Name x ∷ ts)
unfolding before_name
name-before x ts = refl

call-before : (c : Operation) (ts : List Symbol) → before_name (Call c ∷ ts) ≡ None
unfolding before_name
call-before c ts = refl

star-not : (ts : List Symbol) → after Int (Fixed Star ∷ ts) ≡ None
unfolding after
star-not ts = refl

called : (n : ℕ) (c : Operation) (us : List Symbol) {rest : List Symbol} {a : Action} → operation_at c n us ≡ Ok (a, rest) → Yields (simple_at n) (Call c ∷ us) rest (perform a)
unfolding simple_at performed_at
called n c us e = record { is = rw (after-call Int c us, after-call Star c us, call-before c us, call_word-first c us, e) }

declared : (n : ℕ) {ts rest : List Symbol} {ds : List Declared} → Yields (declarators_at n) ts rest ds → Yields (simple_at n) (Fixed Int ∷ ts) rest (declare ds)
unfolding simple_at declaration_at
declared n {ts} y = record { is = rw (after-first Int ts, y.is) }

assigned : (n : ℕ) (r : Word) {ts rest : List Symbol} {v : Right} → Yields (right_at n) ts rest v → Yields (simple_at n) (Name r ∷ Fixed Assign ∷ ts) rest (assign r v)
unfolding simple_at assignment_at name_at
assigned n r {ts} y = record { is = rw (name-not Int r (Fixed Assign ∷ ts), name-not Star r (Fixed Assign ∷ ts), name-before r (Fixed Assign ∷ ts), expected-first Assign ts, y.is) }

stored : (n : ℕ) (x : Word) {ts rest : List Symbol} {e : Term} → Yields (expression_at n) ts rest e → Yields (simple_at n) (Fixed Star ∷ Name x ∷ Fixed Assign ∷ ts) rest (plain_write x e)
unfolding simple_at write_at name_at
stored n x {ts} y = record { is = rw (star-not (Name x ∷ Fixed Assign ∷ ts), after-first Star (Name x ∷ Fixed Assign ∷ ts), expected-first Assign ts, y.is) }

simple-complete : {n : ℕ} {ts rest : List Symbol} {s : Step} → IsSimple n ts rest s → EndsRight rest → after Comma rest ≡ None → Yields (simple_at n) ts rest s
simple-complete (simple_declare {n} d) ends none = declared n (declarators-complete d ends none)
simple-complete (simple_assign {n} {r} d) ends none = assigned n r (right-complete d ends.no_operator)
simple-complete (simple_write {n} {x} d) ends none = stored n x (expression-complete d ends.no_operator)
simple-complete (simple_perform {n} {ts} {rest} {a} d) ends none =
    let f = call-complete d in
    subst (λ l. Yields (simple_at n) l rest (perform a)) (sym f.front) (called n f.word f.behind f.reads)

-- how a simple statement begins
record IsSimpleFirst (ts : List Symbol) : Type 0 where
  semicolon : after Semicolon ts ≡ None
  brace : after LeftBrace ts ≡ None
  branch : after If ts ≡ None
  closing : unless RightBrace ts ≡ Some (tt, ts)

call-opens : (c : Operation) (ts : List Symbol) → IsSimpleFirst (Call c ∷ ts)
unfolding after unless
call-opens c ts = record { semicolon = refl; brace = refl; branch = refl; closing = refl }

simple-opens : {n : ℕ} {ts rest : List Symbol} {s : Step} → IsSimple n ts rest s → IsSimpleFirst ts
unfolding after unless
simple-opens (simple_declare d) = record { semicolon = refl; brace = refl; branch = refl; closing = refl }
simple-opens (simple_assign d) = record { semicolon = refl; brace = refl; branch = refl; closing = refl }
simple-opens (simple_write d) = record { semicolon = refl; brace = refl; branch = refl; closing = refl }
simple-opens (simple_perform d) = let f = call-complete d in subst IsSimpleFirst (sym f.front) (call-opens f.word f.behind)

step-opens : {n : ℕ} {ts rest : List Symbol} {s : Step} → IsStep n ts rest s → Shows (unless RightBrace) ts ts tt
unfolding after unless
step-opens step_empty = record { is = refl }
step-opens (step_block d) = record { is = refl }
step-opens (step_simple d) = record { is = (simple-opens d).closing }
step-opens (step_if d e ends) = record { is = refl }
step-opens (step_else d e f) = record { is = refl }

-- one lemma for each production

step-empty : (n : ℕ) (rest : List Symbol) → Yields (step_at n) (Fixed Semicolon ∷ rest) rest empty
unfolding step_with
step-empty n rest = record { is = rw (after-first Semicolon rest) }

brace-not : (ts : List Symbol) → after Semicolon (Fixed LeftBrace ∷ ts) ≡ None
unfolding after
brace-not ts = refl

block-yields : (n : ℕ) {ts rest : List Symbol} {ss : Steps} → Yields (steps_at n) ts rest ss → Yields (block_with (inside (suc n))) ts rest (block ss)
unfolding block_with inside
block-yields n y = record { is = rw y.is }

step-brace : (n : ℕ) {ts rest : List Symbol} {s : Step} → Yields (block_with (inside n)) ts rest s → Yields (step_at n) (Fixed LeftBrace ∷ ts) rest s
unfolding step_with
step-brace n {ts} y = record { is = rw (brace-not ts, after-first LeftBrace ts, y.is) }

step-simple : (n : ℕ) {ts rest : List Symbol} {s : Step} → IsSimpleFirst ts → Yields (simple_at n) ts (Fixed Semicolon ∷ rest) s → Yields (step_at n) ts rest s
unfolding step_with closed_at
step-simple n {rest = rest} o y = record { is = rw (o.semicolon, o.brace, o.branch, y.is, expected-first Semicolon rest) }

if-no_semicolon : (ts : List Symbol) → after Semicolon (Fixed If ∷ ts) ≡ None
unfolding after
if-no_semicolon ts = refl

if-no_brace : (ts : List Symbol) → after LeftBrace (Fixed If ∷ ts) ≡ None
unfolding after
if-no_brace ts = refl

if-yields : (n : ℕ) {ts mid rest : List Symbol} {c : Term} {a : Step} → Yields (expression_at n) ts (Fixed RightParen ∷ mid) c → Yields (step_at n) mid rest a → after Else rest ≡ None →
    Yields (if_with (inside (suc n))) (Fixed LeftParen ∷ ts) rest (if_only c a)
unfolding if_with else_with inside
if-yields n {ts} {mid} x y none = record { is = rw (expected-first LeftParen ts, x.is, expected-first RightParen mid, y.is, none) }

else-yields : (n : ℕ) {ts mid more rest : List Symbol} {c : Term} {a b : Step} → Yields (expression_at n) ts (Fixed RightParen ∷ mid) c → Yields (step_at n) mid (Fixed Else ∷ more) a → Yields (step_at n) more rest b →
    Yields (if_with (inside (suc n))) (Fixed LeftParen ∷ ts) rest (if_else c a b)
unfolding if_with else_with inside
else-yields n {ts} {mid} {more} x y z = record { is = rw (expected-first LeftParen ts, x.is, expected-first RightParen mid, y.is, after-first Else more, z.is) }

step-branch : (n : ℕ) {ts rest : List Symbol} {s : Step} → Yields (if_with (inside n)) ts rest s → Yields (step_at n) (Fixed If ∷ ts) rest s
unfolding step_with
step-branch n {ts} y = record { is = rw (if-no_semicolon ts, if-no_brace ts, after-first If ts, y.is) }

abbrev StepsTo : ℕ → List Symbol → List Symbol → Steps → Type 0
StepsTo n ts rest ss = Arrives (syntax 0) (unless RightBrace) (steps_more (inside n) n) (repeated (syntax 0) (unless RightBrace) (steps_more (inside n) n) no_steps) ts rest ss

step-more : (n : ℕ) (ss : Steps) {ts rest : List Symbol} {s : Step} → Yields (step_at n) ts rest s → Yields (steps_more (inside n) n tt ss) ts rest (followed ss s)
unfolding steps_more
step-more n ss y = record { is = rw y.is }

steps-next : (n : ℕ) {ts mid rest : List Symbol} {ss rs : Steps} → StepsTo n ts mid ss → Shows (unless RightBrace) mid mid tt → Yields (steps_more (inside n) n tt ss) mid rest rs → StepsTo n ts rest rs
steps-next n s o y = next (syntax 0) (unless RightBrace) (steps_more (inside n) n) (steps_turn_takes n) s o y

closed : (ts : List Symbol) → unless RightBrace (Fixed RightBrace ∷ ts) ≡ None
unfolding unless
closed ts = rw (after-first RightBrace ts)

steps-end : (n : ℕ) {ts rest : List Symbol} {ss : Steps} → StepsTo n ts (Fixed RightBrace ∷ rest) ss → Yields (steps_at n) ts rest ss
unfolding steps_with
steps-end n {rest = rest} s = record { is = rw ((last s (closed rest)).is, expected-first RightBrace rest) }

after-not : (t : Terminal) (ts : List Symbol) → NotNext t ts → after t ts ≡ None
after-not t ts ends = elim (none_or_some (after t ts)) [
  | inl e ↦ e
  | inr (y, was) ↦ absurd (ends y.1 (after-some t ts y.1 y.0 was))
]

mutual
  step-complete : {n : ℕ} {ts rest : List Symbol} {s : Step} → IsStep n ts rest s → Yields (step_at n) ts rest s
  step-complete (step_empty {n} {rest}) = step-empty n rest
  step-complete (step_block {n} d) = step-brace (suc n) (block-yields n (steps-end n (steps-arrive d)))
  step-complete (step_simple {n} {rest = rest} d) = step-simple n (simple-opens d) (simple-complete d (semicolon-after rest) (no_comma rest))
  step-complete (step_if {n} {mid = mid} {rest} d e ends) = step-branch (suc n) (if-yields n (expression-complete d (paren-ends 3 mid)) (step-complete e) (after-not Else rest ends))
  step-complete (step_else {n} {mid = mid} d e f) = step-branch (suc n) (else-yields n (expression-complete d (paren-ends 3 mid)) (step-complete e) (step-complete f))

  steps-arrive : {n : ℕ} {ts rest : List Symbol} {ss : Steps} → IsSteps n ts rest ss → StepsTo n ts rest ss
  steps-arrive steps_none = record { is = refl }
  steps-arrive (steps_and {n} {ss = ss} d e) = steps-next n (steps-arrive d) (step-opens e) (step-more n ss (step-complete e))

pub steps-complete : {n : ℕ} {ts rest : List Symbol} {ss : Steps} → IsSteps n ts (Fixed RightBrace ∷ rest) ss → Yields (steps_at n) ts rest ss
steps-complete {n} d = steps-end n (steps-arrive d)
