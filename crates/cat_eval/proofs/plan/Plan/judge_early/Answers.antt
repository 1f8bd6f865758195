use Rattle.std.proofs.Common.{List, length, subst, ap, ◌∙◌}
use Rattle.std.specs.Prelude.{◌↔◌, IfOk, IsTrue}
use Rattle.listings.specs.Lists.{Lists}
use Rattle.cat_tree.specs.Tree.{Word, Clause}
use Rattle.cat_eval.specs.Judging.{Allowed, Raised}
use Rattle.cat_eval.proofs.Held.{holds_nothing}
use Rattle.cat_eval.proofs.Spoken.{none_absent}
use Rattle.cat_eval.proofs.plan.Plan.judge_early.Goals as goal

pub judge_early_by-requires : goal.judge_early_by-requires
judge_early_by-requires c = record {
  code = c.code-code.ensures.code;
  absent = none_absent c.code-code.result.absent.now c.args.view.now c.code-code.ensures.absent;
  kept = record { long = ap length c.deref_mut.ensures.value ∙ c.in_ok-values.ensures; holds = holds_nothing _ _ _ _ _ c.nothing-kept.ensures.runs c.nothing-kept.ensures.sources };
}

pub returns-clause-allowed : goal.returns-clause-allowed
returns-clause-allowed c =
    let P : List Clause → Type 0 = λ items. IfOk c.judge_early_by.result (λ j. IsTrue j.allowed ↔ Allowed items c.args.view.now) in
    subst P c.code-code.ensures.items c.judge_early_by.ensures.allowed

pub returns-clause-flags : goal.returns-clause-flags
returns-clause-flags c =
    let P : List Clause → Type 0 = λ items. IfOk c.judge_early_by.result (λ j. Lists {X = Word} (λ name. Allowed items c.args.view.now × Raised items c.args.view.now name) j.flags) in
    subst P c.code-code.ensures.items c.judge_early_by.ensures.flags
