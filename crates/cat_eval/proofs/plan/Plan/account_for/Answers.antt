use Rattle.std.proofs.Common.{List, length, subst, ap, ◌∙◌}
use Rattle.std.specs.Prelude.{◌↔◌, IfOk, IsTrue}
use Rattle.listings.specs.Lists.{Lists}
use Rattle.cat_tree.specs.Tree.{Word, Clause}
use Rattle.events.specs.Named.{event_count}
use Rattle.cat_eval.specs.Judging.{Allowed, Raised, First}
use Rattle.cat_eval.specs.Outcomes.{AreOutcomes}
use Rattle.cat_eval.proofs.Held.{holds_nothing}
use Rattle.cat_eval.proofs.Running.{ran_none}
use Rattle.cat_eval.proofs.plan.Plan.account_for.Goals as goal

pub account_for_items-requires : goal.account_for_items-requires
account_for_items-requires c = record {
  plan = c.code-code.ensures.plan;
  machine = record {
    graded = c.code-code.ensures.code.graded;
    keeps = record { long = ap length c.deref_mut.ensures.value ∙ c.in_ok-values.ensures; holds = holds_nothing _ _ _ _ _ c.nothing-kept.ensures.runs c.nothing-kept.ensures.sources };
    ran = ran_none _ _ _;
  };
}

pub returns-clause-allowed : goal.returns-clause-allowed
returns-clause-allowed c =
    let P : List Clause → Type 0 = λ items. IfOk c.account_for_items.result (λ a. IsTrue a.judgement.allowed ↔ Allowed items c.args.view.now) in
    subst P c.code-code.ensures.items c.account_for_items.ensures.allowed

pub returns-clause-flags : goal.returns-clause-flags
returns-clause-flags c =
    let P : List Clause → Type 0 = λ items. IfOk c.account_for_items.result (λ a. Lists {X = Word} (Raised items c.args.view.now) a.judgement.flags) in
    subst P c.code-code.ensures.items c.account_for_items.ensures.flags

pub returns-clause-outcomes : goal.returns-clause-outcomes
returns-clause-outcomes c =
    let P : List Clause → Type 0 = λ items. IfOk c.account_for_items.result (λ a. AreOutcomes (event_count c.args.view.now) (First c.args.view.now) items a.outcomes.items) in
    subst P c.code-code.ensures.items c.account_for_items.ensures.outcomes
