use Rattle.std.proofs.Common.{◌≡◌, List, map, ap, refl, subst, ◌∙◌}
use Rattle.std.specs.Prelude.{true, IfOk, IfSome}
use Rattle.listings.specs.Lists.{Lists}
use Rattle.cat_tree.specs.Tree.{Word, Clause}
use Rattle.events.specs.Executions.{GraphValue}
use Rattle.events.specs.Opened.{IsWithin, opened}
use Rattle.cat_eval.specs.declared.plan.PlannedItem.{PlannedItem}
use Rattle.cat_eval.specs.Code.{planned_clause}
use Rattle.cat_eval.specs.Evaluators.{EvaluatorValue}
use Rattle.cat_eval.specs.Judging.{Allowed, Raised}
use Rattle.cat_eval.proofs.evaluator.Evaluator.judge_opened_followed.Goals as goal

pub returns-clause-allowed : goal.returns-clause-allowed
returns-clause-allowed c =
    let P : List Clause → Type 0 = λ items. IfOk c.judge_opened.result (λ o. IfSome o (λ j. (j.allowed ≡ true) × ((h : GraphValue) → IsWithin h (opened c.args.graph.now c.args.cut) → Allowed items h))) in
    subst P (ap (λ (xs : List PlannedItem). map planned_clause xs) c.deref-2.ensures.value ∙ ap (λ (e : EvaluatorValue). e.items) c.self.view_is) c.judge_opened.ensures.allowed

pub returns-clause-flags : goal.returns-clause-flags
returns-clause-flags c =
    let P : List Clause → Type 0 = λ items. IfOk c.judge_opened.result (λ o. IfSome o (λ j. (h : GraphValue) → IsWithin h (opened c.args.graph.now c.args.cut) → Lists {X = Word} (λ name. Allowed items h × Raised items h name) j.flags)) in
    subst P (ap (λ (xs : List PlannedItem). map planned_clause xs) c.deref-2.ensures.value ∙ ap (λ (e : EvaluatorValue). e.items) c.self.view_is) c.judge_opened.ensures.flags
