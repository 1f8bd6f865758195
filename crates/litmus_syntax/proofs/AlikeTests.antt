-- Reading a test: what is told of the causes for which there is no reading; and it does the same on symbols that begin alike, up to where they part.
use Rattle.std.proofs.Common.{◌≡◌, ℕ, zero, suc, ◌<◌, ◌≤◌, ◌-◌, ◌+◌, List, [], ◌∷◌, length, arith, refl, sym, subst}
use Rattle.std.specs.Prelude.{take, Some, Ok, Err}
use Rattle.descent.specs.Reading.{match_option}
use Rattle.events.specs.declared.event.Order.{Order}
use Rattle.conditions.specs.Conditions.{Formula}
use Rattle.litmus_syntax.specs.declared.atomics.Operation.{Operation}
use Rattle.litmus_syntax.specs.declared.symbol.Symbol.{Symbol}
use Rattle.litmus_syntax.specs.declared.symbol.Symbol.TheVariants.{Fixed, Call, Name, Number}
use Rattle.litmus_syntax.specs.declared.symbol.Terminal.TheVariants.{Int, If, Else, LeftParen, RightParen, LeftBrace, RightBrace, Semicolon, Comma, Assign, Star, Bang, And, Or, Arrow}
use Rattle.litmus_tree.specs.declared.expression.Operator.{Operator}
use Rattle.litmus_syntax.specs.Atomics.{effect_of, accepted, has_value}
use Rattle.litmus_syntax.specs.declared.atomics.Effect.{Effect}
use Rattle.litmus_syntax.specs.declared.atomics.Effect.TheVariants.{Loads, Stores, Exchanges, Modifies, Fences}
use Rattle.litmus_syntax.specs.Drafts.{Listing}
use Rattle.litmus_syntax.specs.Reading.{Reading, syntax, misordered, after, unless, call_word, before_name, opened, open_at, parameter_list_at, operator_at, Terms, unary_with, next_operand, operands, level_with, terms_below, expression_at, located_at, target_at, valued_at, constant_at, load_at, store_at, exchange_at, modify_at, fence_at, effect_at, operation_at, value_at, computed_at, plain_at, right_at, declarator_at, declarators_more, declarators_at, assignment_at, write_at, declaration_at, performed_at, simple_at, closed_at, Inside, else_with, if_with, block_with, step_with, steps_more, steps_with, inside, thread_at, threads_more, threads_at, Propositions, denied_with, enclosed_with, atomic_with, conjunction_more, conjunction_with, or_more, or_with, proposition_with, propositions_below, condition_at, test_at}
use Rattle.litmus_syntax.specs.Unspelled.{SpellsNone, BeginsNone, IsStuck}
use Rattle.litmus_tree.specs.Tree.{Term, Right, Declared, Step, Steps, no_steps}
use Rattle.descent.proofs.Causes.{Raised, tail_length, never_ok, first}
use Rattle.litmus_syntax.proofs.Alike.{Any, Tells, Alike, alike_last, alike_next, Agree, agree_ok, agree_stuck, agree_past, Both, both_bind, both_ok, both_deep, both_match, both_repeated}
use Rattle.litmus_syntax.proofs.AlikeParts.{Taken, taken_here, taken_stuck, taken_on, taken_call, taken_if, both_first, at_end, seen_after, seen_operator, seen_denial, seen_before, seen_unless, both_expected, both_name, both_number, both_word, both_language, both_thread_name, both_end, both_initial, both_parameters_behind, both_listed, both_plain_atomic, both_kind_of, both_last_order, both_closing}
use Rattle.litmus_syntax.proofs.Complete.{test-complete}
use Rattle.litmus_syntax.proofs.Expressions.{operand_shorter}
use Rattle.litmus_syntax.proofs.Levels.{threads_turn_takes}
use Rattle.litmus_syntax.proofs.Propositions.{conjunction_turn_takes, or_turn_takes}
use Rattle.litmus_syntax.proofs.Statements.{declarators_turn_takes, steps_turn_takes}

-- what nests one deeper

record BothTerms (M : List Symbol → Type 0) (t : Terms) : Type 0 where
  expression : (ts us : List Symbol) → Both (Unit {0}) M ts us (t.expression ts) (t.expression us)
  unary : (ts us : List Symbol) → Both (Unit {0}) M ts us (t.unary ts) (t.unary us)

record BothInside (M : List Symbol → Type 0) (i : Inside) : Type 0 where
  expression : (ts us : List Symbol) → Both (Unit {0}) M ts us (i.expression ts) (i.expression us)
  statement : (ts us : List Symbol) → Both (Unit {0}) M ts us (i.statement ts) (i.statement us)
  statements : (ts us : List Symbol) → Both (Unit {0}) M ts us (i.statements ts) (i.statements us)

record BothPropositions (M : List Symbol → Type 0) (q : Propositions) : Type 0 where
  proposition : (ts us : List Symbol) → Both (Unit {0}) M ts us (q.proposition ts) (q.proposition us)
  atomic : (ts us : List Symbol) → Both (Unit {0}) M ts us (q.atomic ts) (q.atomic us)

-- an expression or a call
abbrev valued_or_called : ℕ → List Symbol → Reading Right
valued_or_called n ts = match_option (call_word ts) (computed_at n ts) (λ c. value_at (length ts) c.0 n c.1)

module _ {M : List Symbol → Type 0} where
  -- Expressions.

  module _ (t : Terms) (inner : BothTerms M t) where
    taken_unary : (x : Symbol) (ts us : List Symbol) → Taken (Unit {0}) M x ts us (unary_with t (x ∷ ts)) (unary_with t (x ∷ us))
    unfolding unary_with
    taken_unary (Name x) ts us = taken_on both_ok
    taken_unary (Number v) ts us = taken_on both_ok
    taken_unary (Fixed Bang) ts us = taken_on (both_bind _ _ (inner.unary ts us) (λ a ts us. both_ok))
    taken_unary (Fixed LeftParen) ts us = taken_on (both_bind _ _ (inner.expression ts us) (λ a ts us. both_bind _ _ (both_expected RightParen ts us) (λ y ts us. both_ok)))
    taken_unary x ts us = taken_stuck

    both_unary : (ts us : List Symbol) → Both (Unit {0}) M ts us (unary_with t ts) (unary_with t us)
    unfolding unary_with
    both_unary = both_first (unary_with t) at_end taken_unary

    module _ (shorter : (k : ℕ) (ts mid rest : List Symbol) (o : Operator) (a b : Term) → operator_at k ts ≡ Some (o, mid) → next_operand (level_with t k) o a mid ≡ Ok (b, rest) → length rest < length ts) where
      both_operands : (k : ℕ) → ((ts us : List Symbol) → Both (Unit {0}) M ts us (level_with t k ts) (level_with t k us)) → (ts us : List Symbol) → Both (Unit {0}) M ts us (operands (operator_at k) (level_with t k) ts) (operands (operator_at k) (level_with t k) us)
      unfolding operands
      both_operands k part ts us = both_bind _ _ (part ts us) (both_repeated (operator_at k) (next_operand (level_with t k)) (seen_operator k) (λ o a ts us. both_bind _ _ (part ts us) (λ b ts us. both_ok)) (shorter k))

      both_level : (k : ℕ) (ts us : List Symbol) → Both (Unit {0}) M ts us (level_with t k ts) (level_with t k us)
      unfolding level_with
      both_level zero ts us = both_unary ts us
      both_level (suc k) ts us = both_operands k (both_level k) ts us

  both_terms : (n : ℕ) → BothTerms M (terms_below n)
  unfolding terms_below
  both_terms zero = record { expression = λ ts us. both_deep tt; unary = λ ts us. both_deep tt }
  both_terms (suc n) = record { expression = both_level (terms_below n) (both_terms n) (operand_shorter n) 3; unary = both_unary (terms_below n) (both_terms n) }

  both_expression : (n : ℕ) (ts us : List Symbol) → Both (Unit {0}) M ts us (expression_at n ts) (expression_at n us)
  both_expression n = both_level (terms_below n) (both_terms n) (operand_shorter n) 3

  -- Calls.

  both_opened : (n : ℕ) (ts us : List Symbol) → Both (Unit {0}) M ts us (opened n ts) (opened n us)
  unfolding opened
  both_opened zero ts us = both_deep tt
  both_opened (suc n) ts us = both_ok

  pub both_open : (n : ℕ) (ts us : List Symbol) → Both (Unit {0}) M ts us (open_at n ts) (open_at n us)
  unfolding open_at
  both_open n ts us = both_bind _ _ (both_expected LeftParen ts us) (λ y ts us. both_opened n ts us)

  pub both_located : (n : ℕ) (ts us : List Symbol) → Both (Unit {0}) M ts us (located_at n ts) (located_at n us)
  unfolding located_at
  both_located n ts us = both_bind _ _ (both_open n ts us) (λ m ts us. both_bind _ _ (both_name ts us) (λ x ts us. both_ok))

  both_target : (n : ℕ) (ts us : List Symbol) → Both (Unit {0}) M ts us (target_at n ts) (target_at n us)
  unfolding target_at
  both_target n ts us = both_bind _ _ (both_located n ts us) (λ x ts us. both_bind _ _ (both_expected Comma ts us) (λ y ts us. both_ok))

  pub both_valued : (n : ℕ) (ts us : List Symbol) → Both (Unit {0}) M ts us (valued_at n ts) (valued_at n us)
  unfolding valued_at
  both_valued n ts us = both_bind _ _ (both_target n ts us) (λ x ts us. both_bind _ _ (both_expression x.1 ts us) (λ e ts us. both_ok))

  pub both_constant : (n : ℕ) (ts us : List Symbol) → Both (Unit {0}) M ts us (constant_at n ts) (constant_at n us)
  unfolding constant_at
  both_constant n ts us = both_bind _ _ (both_target n ts us) (λ x ts us. both_bind _ _ (both_number ts us) (λ v ts us. both_ok))

  both_computed : (n : ℕ) (ts us : List Symbol) → Both (Unit {0}) M ts us (computed_at n ts) (computed_at n us)
  unfolding computed_at
  both_computed n ts us = both_bind _ _ (both_expression n ts us) (λ e ts us. both_ok)

both_effect : (f : Effect) (os : List Order) (n : ℕ) (ts us : List Symbol) → Both (Unit {0}) Any ts us (effect_at f os n ts) (effect_at f os n us)
unfolding load_at store_at exchange_at modify_at fence_at
both_effect Loads os n ts us = both_bind _ _ (both_located n ts us) (λ x ts us. both_bind _ _ (both_closing os ts us) (λ o ts us. both_ok))
both_effect Stores os n ts us = both_bind _ _ (both_valued n ts us) (λ x ts us. both_bind _ _ (both_closing os ts us) (λ o ts us. both_ok))
both_effect Exchanges os n ts us = both_bind _ _ (both_valued n ts us) (λ x ts us. both_bind _ _ (both_closing os ts us) (λ o ts us. both_ok))
both_effect (Modifies f) os n ts us = both_bind _ _ (both_constant n ts us) (λ x ts us. both_bind _ _ (both_closing os ts us) (λ o ts us. both_ok))
both_effect Fences os n ts us = both_bind _ _ (both_open n ts us) (λ x ts us. both_bind _ _ (both_last_order os ts us) (λ o ts us. both_ok))

pub both_operation : (c : Operation) (n : ℕ) (ts us : List Symbol) → Both (Unit {0}) Any ts us (operation_at c n ts) (operation_at c n us)
unfolding operation_at
both_operation c n ts us = both_effect (effect_of c) (accepted c) n ts us

-- Of a call with an order that it does not take, M tells.
module _ {M : List Symbol → Type 0} (tells : (c : Operation) (n : ℕ) (ts : List Symbol) → operation_at c n ts ≡ Err misordered → M (Call c ∷ ts)) where
  taken_valued : (n : ℕ) (x : Symbol) (ts us : List Symbol) → Taken (Unit {0}) M x ts us (valued_or_called n (x ∷ ts)) (valued_or_called n (x ∷ us))
  unfolding call_word value_at
  taken_valued n (Call c) ts us = taken_if (has_value c) (taken_call (both_bind _ _ (both_operation c n ts us) (λ a ts us. both_ok)) (λ e. first (operation_at c n ts) e (tells c n ts) (λ a. never_ok))) taken_stuck
  taken_valued n x ts us = taken_here (both_computed n (x ∷ ts) (x ∷ us))

  no_call : (n : ℕ) → Both (Unit {0}) M [] [] (valued_or_called n []) (valued_or_called n [])
  unfolding call_word
  no_call n = both_computed n [] []

  both_called : (n : ℕ) (ts us : List Symbol) → Both (Unit {0}) M ts us (valued_or_called n ts) (valued_or_called n us)
  both_called n = both_first (valued_or_called n) (no_call n).told (taken_valued n)

  both_right : (n : ℕ) (ts us : List Symbol) → Both (Unit {0}) M ts us (right_at n ts) (right_at n us)
  unfolding right_at plain_at
  both_right n ts us = both_match _ _ (seen_after Star ts us) (both_called n ts us) (λ y ts us. both_bind _ _ (both_name ts us) (λ x ts us. both_ok))

  both_declarator : (n : ℕ) (ts us : List Symbol) → Both (Unit {0}) M ts us (declarator_at n ts) (declarator_at n us)
  unfolding declarator_at
  both_declarator n ts us = both_bind _ _ (both_name ts us) (λ x ts us. both_match _ _ (seen_after Assign ts us) both_ok (λ y ts us. both_bind _ _ (both_right n ts us) (λ v ts us. both_ok)))

  both_declarators_more : (n : ℕ) (ds : List Declared) (ts us : List Symbol) → Both (Unit {0}) M ts us (declarators_more n ds ts) (declarators_more n ds us)
  unfolding declarators_more
  both_declarators_more n ds ts us = both_bind _ _ (both_declarator n ts us) (λ d ts us. both_ok)

  both_declarators : (n : ℕ) (ts us : List Symbol) → Both (Unit {0}) M ts us (declarators_at n ts) (declarators_at n us)
  unfolding declarators_at
  both_declarators n ts us = both_bind _ _ (both_declarators_more n [] ts us) (both_repeated (after Comma) (λ _ ds us. declarators_more n ds us) (seen_after Comma) (λ _ ds ts us. both_declarators_more n ds ts us) (declarators_turn_takes n))

  both_assignment : (n : ℕ) (ts us : List Symbol) → Both (Unit {0}) M ts us (assignment_at n ts) (assignment_at n us)
  unfolding assignment_at
  both_assignment n ts us = both_bind _ _ (both_name ts us) (λ x ts us. both_bind _ _ (both_expected Assign ts us) (λ y ts us. both_bind _ _ (both_right n ts us) (λ v ts us. both_ok)))

  both_write : (n : ℕ) (ts us : List Symbol) → Both (Unit {0}) M ts us (write_at n ts) (write_at n us)
  unfolding write_at
  both_write n ts us = both_bind _ _ (both_name ts us) (λ x ts us. both_bind _ _ (both_expected Assign ts us) (λ y ts us. both_bind _ _ (both_expression n ts us) (λ v ts us. both_ok)))

  taken_performed : (n : ℕ) (x : Symbol) (ts us : List Symbol) → Taken (Unit {0}) M x ts us (performed_at n (x ∷ ts)) (performed_at n (x ∷ us))
  unfolding performed_at call_word
  taken_performed n (Call c) ts us = taken_call (both_bind _ _ (both_operation c n ts us) (λ a ts us. both_ok)) (λ e. first (operation_at c n ts) e (tells c n ts) (λ a. never_ok))
  taken_performed n x ts us = taken_stuck

  both_performed : (n : ℕ) (ts us : List Symbol) → Both (Unit {0}) M ts us (performed_at n ts) (performed_at n us)
  unfolding performed_at call_word
  both_performed n = both_first (performed_at n) at_end (taken_performed n)

  both_simple : (n : ℕ) (ts us : List Symbol) → Both (Unit {0}) M ts us (simple_at n ts) (simple_at n us)
  unfolding simple_at declaration_at
  both_simple n ts us = both_match _ _ (seen_after Int ts us)
      (both_match _ _ (seen_after Star ts us) (both_match _ _ (seen_before ts us) (both_performed n ts us) (λ y ts us. both_assignment n ts us)) (λ y ts us. both_write n ts us))
      (λ y ts us. both_bind _ _ (both_declarators n ts us) (λ ds ts us. both_ok))

  both_closed : (n : ℕ) (ts us : List Symbol) → Both (Unit {0}) M ts us (closed_at n ts) (closed_at n us)
  unfolding closed_at
  both_closed n ts us = both_bind _ _ (both_simple n ts us) (λ a ts us. both_bind _ _ (both_expected Semicolon ts us) (λ y ts us. both_ok))

  module _ (i : Inside) (inner : BothInside M i) where
    both_else : (c : Term) (a : Step) (ts us : List Symbol) → Both (Unit {0}) M ts us (else_with i c a ts) (else_with i c a us)
    unfolding else_with
    both_else c a ts us = both_match _ _ (seen_after Else ts us) both_ok (λ y ts us. both_bind _ _ (inner.statement ts us) (λ b ts us. both_ok))

    both_branch : (ts us : List Symbol) → Both (Unit {0}) M ts us (if_with i ts) (if_with i us)
    unfolding if_with
    both_branch ts us = both_bind _ _ (both_expected LeftParen ts us) (λ x ts us. both_bind _ _ (inner.expression ts us) (λ c ts us.
        both_bind _ _ (both_expected RightParen ts us) (λ y ts us. both_bind _ _ (inner.statement ts us) (λ a ts us. both_else c a ts us))))

    both_step : (n : ℕ) (ts us : List Symbol) → Both (Unit {0}) M ts us (step_with i n ts) (step_with i n us)
    unfolding step_with block_with
    both_step n ts us = both_match _ _ (seen_after Semicolon ts us)
        (both_match _ _ (seen_after LeftBrace ts us) (both_match _ _ (seen_after If ts us) (both_closed n ts us) (λ y ts us. both_branch ts us)) (λ y ts us. both_bind _ _ (inner.statements ts us) (λ b ts us. both_ok)))
        (λ y ts us. both_ok)

    both_steps_more : (n : ℕ) (u : Unit {0}) (ss : Steps) (ts us : List Symbol) → Both (Unit {0}) M ts us (steps_more i n u ss ts) (steps_more i n u ss us)
    unfolding steps_more
    both_steps_more n u ss ts us = both_bind _ _ (both_step n ts us) (λ b ts us. both_ok)

    both_steps : (n : ℕ) → ((ts mid rest : List Symbol) (o : Unit {0}) (a b : Steps) → unless RightBrace ts ≡ Some (o, mid) → steps_more i n o a mid ≡ Ok (b, rest) → length rest < length ts) →
        (ts us : List Symbol) → Both (Unit {0}) M ts us (steps_with i n ts) (steps_with i n us)
    unfolding steps_with
    both_steps n shorter ts us = both_bind _ _ (both_repeated (unless RightBrace) (steps_more i n) (seen_unless RightBrace) (both_steps_more n) shorter no_steps ts us) (λ a ts us. both_bind _ _ (both_expected RightBrace ts us) (λ y ts us. both_ok))

  both_inside : (n : ℕ) → BothInside M (inside n)
  unfolding inside
  both_inside zero = record { expression = λ ts us. both_deep tt; statement = λ ts us. both_deep tt; statements = λ ts us. both_deep tt }
  both_inside (suc n) = record {
    expression = both_expression n;
    statement = both_step (inside n) (both_inside n) n;
    statements = both_steps (inside n) (both_inside n) n (steps_turn_takes n);
  }

  -- Threads.

  both_parameter_list : (n : ℕ) (ts us : List Symbol) → Both (Unit {0}) M ts us (parameter_list_at n ts) (parameter_list_at n us)
  unfolding parameter_list_at
  both_parameter_list n ts us = both_bind _ _ (both_open n ts us) (λ m ts us. both_parameters_behind ts us)

  both_thread : (n k : ℕ) (ts us : List Symbol) → Both (Unit {0}) M ts us (thread_at n k ts) (thread_at n k us)
  unfolding thread_at
  both_thread n k ts us = both_bind _ _ (both_thread_name k ts us) (λ y ts us. both_bind _ _ (both_parameter_list n ts us) (λ ps ts us. both_bind _ _ (both_expected LeftBrace ts us) (λ z ts us.
      both_bind _ _ (both_steps (inside n) (both_inside n) n (steps_turn_takes n) ts us) (λ ss ts us. both_ok))))

  both_threads_more : (n : ℕ) (u : Unit {0}) (bs : List Listing) (ts us : List Symbol) → Both (Unit {0}) M ts us (threads_more n u bs ts) (threads_more n u bs us)
  unfolding threads_more
  both_threads_more n u bs ts us = both_bind _ _ (both_thread n (length bs) ts us) (λ b ts us. both_ok)

  both_threads : (n : ℕ) (ts us : List Symbol) → Both (Unit {0}) M ts us (threads_at n ts) (threads_at n us)
  unfolding threads_at
  both_threads n ts us = both_bind _ _ (both_threads_more n tt [] ts us) (both_repeated before_name (threads_more n) seen_before (both_threads_more n) (threads_turn_takes n))

  -- Conditions.

  module _ (q : Propositions) (inner : BothPropositions M q) where
    both_atomic : (ts us : List Symbol) → Both (Unit {0}) M ts us (atomic_with q ts) (atomic_with q us)
    unfolding atomic_with denied_with enclosed_with
    both_atomic ts us = both_match _ _ (seen_denial ts us)
        (both_match _ _ (seen_after LeftParen ts us) (both_plain_atomic ts us) (λ y ts us. both_bind _ _ (inner.proposition ts us) (λ a ts us. both_bind _ _ (both_expected RightParen ts us) (λ z ts us. both_ok))))
        (λ y ts us. both_bind _ _ (inner.atomic ts us) (λ a ts us. both_ok))

    module _ (and_takes : (ts mid rest : List Symbol) (o : Unit {0}) (a b : Formula) → after And ts ≡ Some (o, mid) → conjunction_more q o a mid ≡ Ok (b, rest) → length rest < length ts) (or_takes : (ts mid rest : List Symbol) (o : Unit {0}) (a b : Formula) → after Or ts ≡ Some (o, mid) → or_more q o a mid ≡ Ok (b, rest) → length rest < length ts) where
      both_conjunction : (ts us : List Symbol) → Both (Unit {0}) M ts us (conjunction_with q ts) (conjunction_with q us)
      unfolding conjunction_with conjunction_more
      both_conjunction ts us = both_bind _ _ (both_atomic ts us) (both_repeated (after And) (conjunction_more q) (seen_after And) (λ _ a ts us. both_bind _ _ (both_atomic ts us) (λ b ts us. both_ok)) and_takes)

      both_or : (ts us : List Symbol) → Both (Unit {0}) M ts us (or_with q ts) (or_with q us)
      unfolding or_with or_more
      both_or ts us = both_bind _ _ (both_conjunction ts us) (both_repeated (after Or) (or_more q) (seen_after Or) (λ _ a ts us. both_bind _ _ (both_conjunction ts us) (λ b ts us. both_ok)) or_takes)

      both_proposition : (ts us : List Symbol) → Both (Unit {0}) M ts us (proposition_with q ts) (proposition_with q us)
      unfolding proposition_with
      both_proposition ts us = both_bind _ _ (both_or ts us) (λ a ts us. both_match _ _ (seen_after Arrow ts us) both_ok (λ y ts us. both_bind _ _ (inner.proposition ts us) (λ b ts us. both_ok)))

  both_propositions : (n : ℕ) → BothPropositions M (propositions_below n)
  unfolding propositions_below
  both_propositions zero = record { proposition = λ ts us. both_deep tt; atomic = λ ts us. both_deep tt }
  both_propositions (suc n) = record {
    proposition = both_proposition (propositions_below n) (both_propositions n) (conjunction_turn_takes n) (or_turn_takes n);
    atomic = both_atomic (propositions_below n) (both_propositions n);
  }

  both_condition : (n : ℕ) (ts us : List Symbol) → Both (Unit {0}) M ts us (condition_at n ts) (condition_at n us)
  unfolding condition_at
  both_condition n ts us = both_bind _ _ (both_kind_of ts us) (λ k ts us. both_bind _ _ (both_proposition (propositions_below n) (both_propositions n) (conjunction_turn_takes n) (or_turn_takes n) ts us) (λ a ts us. both_ok))

  -- Tests.

  pub both_tests : (n : ℕ) (ts us : List Symbol) → Both (Unit {0}) M ts us (test_at n ts) (test_at n us)
  unfolding test_at
  both_tests n ts us = both_bind _ _ (both_language ts us) (λ l ts us. both_bind _ _ (both_word ts us) (λ x ts us. both_bind _ _ (both_initial ts us) (λ bs ts us. both_bind _ _ (both_threads n ts us) (λ ls ts us.
      both_bind _ _ (both_listed ts us) (λ ps ts us. both_bind _ _ (both_condition n ts us) (λ c ts us. both_bind _ _ (both_end ts us) (λ e ts us. both_ok)))))))

-- What this says of where reading stops.

both_any_tests : (n : ℕ) (ts us : List Symbol) → Both (Unit {0}) Any ts us (test_at n ts) (test_at n us)
both_any_tests n ts us = both_tests (λ c m vs e. tt) n ts us

within : {m : ℕ} {ts : List Symbol} → Raised (Tells (Unit {0}) Any) (syntax m) ts → m ≤ length ts
within {m} h = let l : m ≤ length h.left = h.tells in omega (arith, tail_length h.behind, l)

test_within : (n : ℕ) (ts : List Symbol) (m : ℕ) → test_at n ts ≡ Err (syntax m) → m ≤ length ts
test_within n ts m e = within ((both_any_tests n ts ts).told.raised (syntax m) e)

-- both stop where the place is in front of where the symbols part
stops_too : {A : Type 0} {r s : List Symbol} {n : ℕ} {o p : Reading A} → Agree r s o p → length r < n → o ≡ Err (syntax n) → (m : ℕ) × (p ≡ Err (syntax m))
stops_too (agree_ok d) l e = absurd (cc)
stops_too (agree_stuck {ts} {us} d) l e = (length us, refl)
stops_too {n = n} (agree_past h) l e = absurd (omega (arith, l, within (h.raised (syntax n) e)))

record Parts (k : ℕ) (ts us : List Symbol) : Type 0 where
  former : List Symbol
  latter : List Symbol
  alike : Alike former latter ts us
  place : length ts ≡ suc (k + length former)

same_head : {x y : Symbol} {ts us : List Symbol} → ◌≡◌ {A = List Symbol} (x ∷ ts) (y ∷ us) → (x ≡ y) × (ts ≡ us)
same_head e = (cc, cc)

parts : (k : ℕ) (ts us : List Symbol) → k < length ts → take (suc k) us ≡ take (suc k) ts → Parts k ts us
parts k [] us h e = absurd (omega (arith, h))
parts k (x ∷ ts) [] h e = absurd (cc)
parts zero (x ∷ ts) (y ∷ us) h e = subst (λ z. Parts zero (x ∷ ts) (z ∷ us)) (sym (same_head e).0) (record { former = ts; latter = us; alike = alike_last; place = omega arith })
parts (suc k) (x ∷ ts) (y ∷ us) h e =
    let p = parts k ts us (omega (arith, h)) (same_head e).1 in
    subst (λ z. Parts (suc k) (x ∷ ts) (z ∷ us)) (sym (same_head e).0) (record { former = p.former; latter = p.latter; alike = alike_next p.alike; place = omega (arith, p.place) })

spells_none : (us : List Symbol) (m : ℕ) → test_at 32 us ≡ Err (syntax m) → SpellsNone us
spells_none us m fails w d = let reads : test_at 32 us ≡ Ok (w, []) = test-complete d refl in cc

stuck_inside : (ts us : List Symbol) (n k : ℕ) → Parts k ts us → n ≡ length ts - k → test_at 32 ts ≡ Err (syntax n) → SpellsNone us
stuck_inside ts us n k p place e =
    let stops = stops_too ((both_any_tests 32 ts us).agree p.former p.latter p.alike) (omega (arith, p.place, place)) e in
    spells_none us stops.0 stops.1

-- all of the symbols, and no more
whole : (ts us : List Symbol) → take (suc (length ts)) us ≡ take (suc (length ts)) ts → us ≡ ts
whole [] [] e = refl
whole [] (y ∷ us) e = absurd (cc)
whole (x ∷ ts) [] e = absurd (cc)
whole (x ∷ ts) (y ∷ us) e = let h = same_head e in let t = whole ts us h.1 in rw (h.0, t)

begins_none : (ts : List Symbol) (n : ℕ) → n ≤ length ts → test_at 32 ts ≡ Err (syntax n) → BeginsNone ts (length ts - n)
begins_none ts zero h e us same =
    let all : length ts - 0 ≡ length ts = omega arith in
    let is : us ≡ ts = whole ts us (subst (λ k. take (suc k) us ≡ take (suc k) ts) all same) in
    subst SpellsNone (sym is) (spells_none ts zero e)
begins_none ts (suc n) h e us same = stuck_inside ts us (suc n) (length ts - suc n) (parts (length ts - suc n) ts us (omega (arith, h)) same) (omega (arith, h)) e

pub is_stuck : (ts : List Symbol) (n : ℕ) → test_at 32 ts ≡ Err (syntax n) → IsStuck ts n
is_stuck ts n e = record { within = test_within 32 ts n e; stops = e; never = begins_none ts n (test_within 32 ts n e) e }
