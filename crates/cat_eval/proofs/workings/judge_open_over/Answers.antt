use Rattle.std.proofs.Common.{map, subst}
use Rattle.std.specs.Prelude.{◌↔◌, IfOk, IsTrue}
use Rattle.listings.specs.Lists.{Lists}
use Rattle.cat_tree.specs.Tree.{Word}
use Rattle.events.specs.Executions.{GraphValue}
use Rattle.cat_eval.specs.Code.{planned_clause}
use Rattle.cat_eval.specs.Judging.{Allowed, Raised}
use Rattle.cat_eval.proofs.workings.judge_open_over.Goals as goal

pub returns-clause-allowed : goal.returns-clause-allowed
returns-clause-allowed c =
    let P : GraphValue → Type 0 = λ g. IfOk c.judge_early_by.result (λ j. IsTrue j.allowed ↔ Allowed (map planned_clause c.args.code.now.items.now) g) in
    subst P c.over_open-view.ensures c.judge_early_by.ensures.allowed

pub returns-clause-flags : goal.returns-clause-flags
returns-clause-flags c =
    let P : GraphValue → Type 0 = λ g. IfOk c.judge_early_by.result (λ j. Lists {X = Word} (λ name. Allowed (map planned_clause c.args.code.now.items.now) g × Raised (map planned_clause c.args.code.now.items.now) g name) j.flags) in
    subst P c.over_open-view.ensures c.judge_early_by.ensures.flags

pub returns-clause-kept : goal.returns-clause-kept
returns-clause-kept c = rw (← c.over_open-view.ensures) c.judge_early_by.ensures.kept
