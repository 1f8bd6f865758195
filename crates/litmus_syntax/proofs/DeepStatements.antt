-- Statements and threads: where reading gives `deep`, something nests too deep.
use Rattle.std.proofs.Common.{◌≡◌, ℕ, zero, suc, List, [], ◌∷◌, sym, subst, ap, ◌∙◌, refl, inl, inr}
use Rattle.std.specs.Prelude.{◌++◌, length, Ok, Err, codes}
use Rattle.std.specs.Fmt.{decimal}
use Rattle.descent.specs.Reading.{◌>>=◌, repeated}
use Rattle.descent.proofs.Causes.{never_ok, never_made, either, later, first}
use Rattle.descent.proofs.Tools.{bind_ok, chosen, moved}
use Rattle.litmus_syntax.specs.declared.symbol.Symbol.{Symbol}
use Rattle.litmus_syntax.specs.declared.symbol.Symbol.TheVariants.{Fixed, Name}
use Rattle.litmus_syntax.specs.declared.symbol.Terminal.TheVariants.{Int, If, Else, LeftParen, RightParen, LeftBrace, RightBrace, Semicolon, Comma, Assign, Star}
use Rattle.litmus_syntax.specs.Depth.{DeepExpression, DeepAssigned, deep_right, DeepDeclarators, deep_declarator, deep_declared, DeepSimple, deep_declare, deep_assign, deep_write, deep_perform, DeepStep, deep_statement, deep_simple, deep_block, deep_test, deep_arm, deep_else, DeepSteps, deep_statements, deep_step, DeepThread, deep_list, deep_body, DeepThreads, deep_thread, deep_next}
use Rattle.litmus_syntax.specs.Grammar.{IsExpression, IsDeclarators, declarators_one, declarators_more as declarators_and, IsStep, IsSteps, steps_none, steps_more as steps_and, IsParameterList, IsThread, IsThreads, threads_one, threads_more as threads_and}
use Rattle.litmus_syntax.specs.Reading.{syntax, deep, after, expected, unless, name_at, before_name, call_word, open_at, expression_at, operation_at, right_at, declarator_at, declarators_more, declarators_at, assignment_at, write_at, declaration_at, performed_at, simple_at, closed_at, Inside, else_with, if_with, block_with, step_with, steps_more, steps_with, inside, steps_at, parameter_list_at, names_thread, thread_name_at, thread_at, threads_more, threads_at}
use Rattle.litmus_tree.specs.Tree.{Word, Term, Step, no_steps}
use Rattle.litmus_syntax.proofs.DeepExpressions.{expression_deep, any_expression, operation_deep, right_deep}
use Rattle.litmus_syntax.proofs.AlikeParts.{both_parameters_behind, both_thread_name}
use Rattle.litmus_syntax.proofs.DeepTools.{fine, fine_expected, fine_name, chosen_deep, repeated_deep, IsLast, open_deep}
use Rattle.litmus_syntax.proofs.Sound.{parameter_list-sound, thread-sound}
use Rattle.litmus_syntax.proofs.Sounds.{Deeper, deeper}
use Rattle.litmus_syntax.proofs.Statements.{declarator-sound, SoundInside, inside-sound, step_is}
use Rattle.litmus_syntax.proofs.SingleSymbols.{bytes_eq-true, after-some, expected-ok, unless-same, name-ok, call_word-some, before_name-same}

-- Simple statements.

-- behind a name and "="
assigned : (n : ℕ) (r : Word) (ts us vs : List Symbol) → ts ≡ Name r ∷ us → us ≡ Fixed Assign ∷ vs → right_at n vs ≡ Err deep → DeepAssigned (suc n) ts
assigned n r ts us vs d e f = subst (λ l. DeepAssigned (suc n) l) (sym (d ∙ ap (λ l. Name r ∷ l) e)) (deep_right (right_deep n vs f))

declarator_deep : (n : ℕ) (ts : List Symbol) → declarator_at n ts ≡ Err deep → DeepAssigned (suc n) ts
unfolding declarator_at
declarator_deep n ts e =
    later (fine_name ts) e (λ x is f. chosen_deep (after Assign x.1) f (λ g. absurd (cc))
    (λ y was g. assigned n x.0 ts x.1 y.1 (name-ok ts x.1 x.0 is) (after-some Assign x.1 y.1 y.0 was) (first (right_at n y.1) g (λ d. d) (λ v. never_ok))))

declarators_deep : (n : ℕ) (ts : List Symbol) → declarators_at n ts ≡ Err deep → DeepDeclarators (suc n) ts
unfolding declarators_at declarators_more
declarators_deep n ts e =
    either (declarator_at n ts >>= λ d. Ok ([] ++ d.0 ∷ [], d.1)) e (λ d. deep_declarator (first (declarator_at n ts) d (declarator_deep n ts) (λ x. never_ok)))
    (λ x is f.
    let p = bind_ok (declarator_at n ts) _ _ is in
    repeated_deep (after Comma) (λ _ ds us. declarators_more n ds us) (λ l t. IsDeclarators n ts l t)
    (λ o us mid back b c d was g.
    let q = bind_ok (declarator_at n mid) _ _ g in
    moved (λ l t. IsDeclarators n ts l t) q.2 (declarators_and (subst (λ l. IsDeclarators n ts l b) (after-some Comma us mid o was) d) (declarator-sound n mid q.0.1 q.0.0 q.1)))
    (λ o us mid b d was g.
    deep_declared (subst (λ l. IsDeclarators n ts l b) (after-some Comma us mid o was) d) (first (declarator_at n mid) g (declarator_deep n mid) (λ y. never_ok)))
    x.0 x.1 (moved (λ l t. IsDeclarators n ts l t) p.2 (declarators_one (declarator-sound n ts p.0.1 p.0.0 p.1))) f)

declaration_deep : (n : ℕ) (ts : List Symbol) → declaration_at n ts ≡ Err deep → DeepSimple (suc n) (Fixed Int ∷ ts)
unfolding declaration_at
declaration_deep n ts e = deep_declare (first (declarators_at n ts) e (declarators_deep n ts) (λ x. never_ok))

assignment_deep : (n : ℕ) (ts : List Symbol) → assignment_at n ts ≡ Err deep → DeepSimple (suc n) ts
unfolding assignment_at
assignment_deep n ts e =
    later (fine_name ts) e (λ x is f. later (fine_expected Assign x.1) f
    (λ y was g. deep_assign (assigned n x.0 ts x.1 y.1 (name-ok ts x.1 x.0 is) (expected-ok Assign x.1 y.1 y.0 was) (first (right_at n y.1) g (λ d. d) (λ v. never_ok)))))

write_deep : (n : ℕ) (ts : List Symbol) → write_at n ts ≡ Err deep → DeepSimple (suc n) (Fixed Star ∷ ts)
unfolding write_at
write_deep n ts e =
    later (fine_name ts) e (λ x is f. later (fine_expected Assign x.1) f
    (λ y was g. subst (λ l. DeepSimple (suc n) (Fixed Star ∷ l)) (sym (name-ok ts x.1 x.0 is ∙ ap (λ l. Name x.0 ∷ l) (expected-ok Assign x.1 y.1 y.0 was)))
    (deep_write (first (expression_at n y.1) g (expression_deep n y.1) (λ v. never_ok)))))

performed_deep : (n : ℕ) (ts : List Symbol) → performed_at n ts ≡ Err deep → DeepSimple (suc n) ts
unfolding performed_at
performed_deep n ts e =
    chosen_deep (call_word ts) e (λ g. absurd (cc))
    (λ c was g. subst (λ l. DeepSimple (suc n) l) (sym (call_word-some ts c.1 c.0 was)) (deep_perform (first (operation_at c.0 n c.1) g (operation_deep c.0 n c.1) (λ a. never_ok))))

simple_deep : (n : ℕ) (ts : List Symbol) → simple_at n ts ≡ Err deep → DeepSimple (suc n) ts
unfolding simple_at
simple_deep n ts e =
    chosen_deep (after Int ts) e
    (λ f. chosen_deep (after Star ts) f
    (λ g. chosen_deep (before_name ts) g (performed_deep n ts)
    (λ y was h. subst (λ l. DeepSimple (suc n) l) (before_name-same ts y.1 y.0 was) (assignment_deep n y.1 h)))
    (λ y was g. subst (λ l. DeepSimple (suc n) l) (sym (after-some Star ts y.1 y.0 was)) (write_deep n y.1 g)))
    (λ y was f. subst (λ l. DeepSimple (suc n) l) (sym (after-some Int ts y.1 y.0 was)) (declaration_deep n y.1 f))

-- Statements.

record DeepInside (n : ℕ) (r : Inside) : Type 0 where
  expression : (ts : List Symbol) → r.expression ts ≡ Err deep → DeepExpression n ts
  statement : (ts : List Symbol) → r.statement ts ≡ Err deep → DeepStep n ts
  statements : (ts : List Symbol) → r.statements ts ≡ Err deep → DeepSteps n ts

deeper_arm : {n : ℕ} {ts mid : List Symbol} {c : Term} → Deeper IsExpression n ts (Fixed RightParen ∷ mid) c → DeepStep n mid → DeepStep (suc n) (Fixed If ∷ Fixed LeftParen ∷ ts)
deeper_arm (deeper c) a = deep_arm c a

deeper_else : {n : ℕ} {ts mid more : List Symbol} {c : Term} {a : Step} → Deeper IsExpression n ts (Fixed RightParen ∷ mid) c → Deeper IsStep n mid (Fixed Else ∷ more) a → DeepStep n more →
    DeepStep (suc n) (Fixed If ∷ Fixed LeftParen ∷ ts)
deeper_else (deeper c) (deeper a) b = deep_else c a b

module _ (n : ℕ) (r : Inside) (inner : DeepInside n r) (sound : SoundInside n r) where
  else_deep : (ts mid : List Symbol) (c : Term) (a : Step) → Deeper IsExpression n ts (Fixed RightParen ∷ mid) c → (us : List Symbol) → Deeper IsStep n mid us a →
      else_with r c a us ≡ Err deep → DeepStep (suc n) (Fixed If ∷ Fixed LeftParen ∷ ts)
  unfolding else_with
  else_deep ts mid c a d us f e =
      chosen_deep (after Else us) e (λ g. absurd (cc))
      (λ y was g. deeper_else d (subst (λ l. Deeper IsStep n mid l a) (after-some Else us y.1 y.0 was) f) (first (r.statement y.1) g (inner.statement y.1) (λ b. never_ok)))

  -- behind the test, which stands in its parentheses
  arms_deep : (ts us : List Symbol) (c : Term) → Deeper IsExpression n ts us c → (expected RightParen us >>= λ y. r.statement y.1 >>= λ a. else_with r c a.0 a.1) ≡ Err deep →
      DeepStep (suc n) (Fixed If ∷ Fixed LeftParen ∷ ts)
  arms_deep ts us c d e =
      later (fine_expected RightParen us) e (λ y was f.
      let test : Deeper IsExpression n ts (Fixed RightParen ∷ y.1) c = subst (λ l. Deeper IsExpression n ts l c) (expected-ok RightParen us y.1 y.0 was) d in
      either (r.statement y.1) f (λ g. deeper_arm test (inner.statement y.1 g))
      (λ a is g. else_deep ts y.1 c a.0 test a.1 (sound.statement y.1 a.1 a.0 is) g))

  if_deep : (ts : List Symbol) → if_with r ts ≡ Err deep → DeepStep (suc n) (Fixed If ∷ ts)
  unfolding if_with
  if_deep ts e =
      later (fine_expected LeftParen ts) e (λ x was f.
      subst (λ l. DeepStep (suc n) (Fixed If ∷ l)) (sym (expected-ok LeftParen ts x.1 x.0 was))
      (either (r.expression x.1) f (λ d. deep_test (inner.expression x.1 d))
      (λ c is g. arms_deep x.1 c.1 c.0 (sound.expression x.1 c.1 c.0 is) g)))

  block_deep : (ts : List Symbol) → block_with r ts ≡ Err deep → DeepStep (suc n) (Fixed LeftBrace ∷ ts)
  unfolding block_with
  block_deep ts e = deep_block (first (r.statements ts) e (inner.statements ts) (λ ss. never_ok))

  closed_deep : (ts : List Symbol) → closed_at n ts ≡ Err deep → DeepStep (suc n) ts
  unfolding closed_at
  closed_deep ts e = deep_simple (first (simple_at n ts) e (simple_deep n ts) (λ s. never_made _ (fine_expected Semicolon s.1)))

  step_deep : (ts : List Symbol) → step_with r n ts ≡ Err deep → DeepStep (suc n) ts
  unfolding step_with
  step_deep ts e =
      chosen_deep (after Semicolon ts) e
      (λ f. chosen_deep (after LeftBrace ts) f
      (λ g. chosen_deep (after If ts) g (closed_deep ts)
      (λ y was h. subst (λ l. DeepStep (suc n) l) (sym (after-some If ts y.1 y.0 was)) (if_deep y.1 h)))
      (λ y was g. subst (λ l. DeepStep (suc n) l) (sym (after-some LeftBrace ts y.1 y.0 was)) (block_deep y.1 g)))
      (λ y was f. absurd (cc))

  steps_deep : ((ts rest : List Symbol) (s : Step) → step_with r n ts ≡ Ok (s, rest) → IsStep n ts rest s) → (ts : List Symbol) → steps_with r n ts ≡ Err deep → DeepSteps (suc n) ts
  unfolding steps_with steps_more
  steps_deep whole ts e =
      first (repeated (syntax 0) (unless RightBrace) (steps_more r n) no_steps ts) e
      (repeated_deep (unless RightBrace) (steps_more r n) (λ l t. IsSteps n ts l t)
      (λ o us mid back b c d was g.
      let q = bind_ok (step_with r n mid) _ _ g in
      moved (λ l t. IsSteps n ts l t) q.2 (steps_and d (subst (λ l. IsStep n l q.0.1 q.0.0) (unless-same RightBrace us mid o was) (whole mid q.0.1 q.0.0 q.1))))
      (λ o us mid b d was g. deep_step d (subst (λ l. DeepStep (suc n) l) (unless-same RightBrace us mid o was) (first (step_with r n mid) g (step_deep mid) (λ s. never_ok))))
      no_steps ts steps_none)
      (λ x. never_made _ (fine_expected RightBrace x.1))

inside_deep : (n : ℕ) → DeepInside n (inside n)
unfolding inside
inside_deep zero = record { expression = λ ts e. any_expression ts; statement = λ ts e. deep_statement; statements = λ ts e. deep_statements }
inside_deep (suc n) = record {
  expression = λ ts e. expression_deep n ts e;
  statement = λ ts e. step_deep n (inside n) (inside_deep n) (inside-sound n) ts e;
  statements = λ ts e. steps_deep n (inside n) (inside_deep n) (inside-sound n) (step_is n) ts e;
}

steps_are_deep : (n : ℕ) (ts : List Symbol) → steps_at n ts ≡ Err deep → DeepSteps (suc n) ts
steps_are_deep n ts e = steps_deep n (inside n) (inside_deep n) (inside-sound n) (step_is n) ts e

-- Parameters.

parameter_list_deep : (n : ℕ) (ts : List Symbol) → parameter_list_at n ts ≡ Err deep → IsLast n ts
unfolding parameter_list_at
parameter_list_deep n ts e = first (open_at n ts) e (open_deep n ts) (λ m. fine (both_parameters_behind m.1 m.1))

-- Threads.

thread_name-ok : (k : ℕ) (ts rest : List Symbol) (u : Unit {0}) → thread_name_at k ts ≡ Ok (u, rest) → ts ≡ Name (codes "P" ++ decimal k) ∷ rest
unfolding thread_name_at
thread_name-ok k ts rest u e =
    let x = bind_ok (name_at ts) _ _ e in
    elim (chosen (names_thread x.0.0 k) _ _ _ x.2) [
      | inl g ↦
          let named : x.0.0 ≡ codes "P" ++ decimal k = bytes_eq-true x.0.0 (codes "P" ++ decimal k) g.0 in
          name-ok ts x.0.1 x.0.0 x.1 ∙ ap (λ w. Name w ∷ x.0.1) named ∙ ap (λ l. Name (codes "P" ++ decimal k) ∷ l) (moved (λ l t. x.0.1 ≡ l) g.1 refl)
      | inr g ↦ let h = g.1 in absurd (cc)
    ]

-- no level is left for the parentheses of a thread
closed_thread : (n k : ℕ) (ts : List Symbol) → IsLast n ts → DeepThread (suc n) k (Name (codes "P" ++ decimal k) ∷ ts)
closed_thread n k ts p =
    let P : ℕ → List Symbol → Type 0 = λ m l. DeepThread (suc m) k (Name (codes "P" ++ decimal k) ∷ l) in
    subst (λ m. P m ts) (sym p.level) (subst (λ l. P zero l) (sym p.front) deep_list)

thread_deep : (n k : ℕ) (ts : List Symbol) → thread_at n k ts ≡ Err deep → DeepThread (suc n) k ts
unfolding thread_at
thread_deep n k ts e =
    later (fine (both_thread_name k ts ts)) e (λ y was f.
    subst (λ l. DeepThread (suc n) k l) (sym (thread_name-ok k ts y.1 y.0 was))
    (either (parameter_list_at n y.1) f (λ d. closed_thread n k y.1 (parameter_list_deep n y.1 d))
    (λ ps is g. later (fine_expected LeftBrace ps.1) g
    (λ z at h. deep_body (subst (λ l. IsParameterList n y.1 l ps.0) (expected-ok LeftBrace ps.1 z.1 z.0 at) (parameter_list-sound n y.1 ps.1 ps.0 is))
    (first (steps_at n z.1) h (steps_are_deep n z.1) (λ ss. never_ok))))))

pub threads_deep : (n : ℕ) (ts : List Symbol) → threads_at n ts ≡ Err deep → DeepThreads (suc n) ts
unfolding threads_at threads_more
threads_deep n ts e =
    either (thread_at n 0 ts >>= λ b. Ok ([] ++ b.0 ∷ [], b.1)) e (λ d. deep_thread (first (thread_at n 0 ts) d (thread_deep n 0 ts) (λ x. never_ok)))
    (λ x is f.
    let p = bind_ok (thread_at n 0 ts) _ _ is in
    repeated_deep before_name (threads_more n) (λ l t. IsThreads n ts l t)
    (λ o us mid back b c d was g.
    let q = bind_ok (thread_at n (length b) mid) _ _ g in
    moved (λ l t. IsThreads n ts l t) q.2 (threads_and d (subst (λ l. IsThread n (length b) l q.0.1 q.0.0) (before_name-same us mid o was) (thread-sound n (length b) mid q.0.1 q.0.0 q.1))))
    (λ o us mid b d was g.
    deep_next d (subst (λ l. DeepThread (suc n) (length b) l) (before_name-same us mid o was) (first (thread_at n (length b) mid) g (thread_deep n (length b) mid) (λ y. never_ok))))
    x.0 x.1 (moved (λ l t. IsThreads n ts l t) p.2 (threads_one (thread-sound n 0 ts p.0.1 p.0.0 p.1))) f)
