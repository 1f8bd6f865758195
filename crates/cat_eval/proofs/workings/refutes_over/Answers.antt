use Rattle.std.proofs.Common.{subst}
use Rattle.std.specs.Prelude.{map, IfSome}
use Rattle.events.specs.Executions.{GraphValue}
use Rattle.events.specs.Extends.{Extends}
use Rattle.cat_eval.specs.Code.{planned_clause}
use Rattle.cat_eval.specs.Judging.{Allowed}
use Rattle.cat_eval.proofs.workings.refutes_over.Goals as goal

pub returns-clause-refuted : goal.returns-clause-refuted
returns-clause-refuted c =
    let P : GraphValue → Type 0 = λ g. IfSome c.refutes_by.result (λ _. (h : GraphValue) → Extends g h → ¬ Allowed (map planned_clause c.args.code.now.items.now) h) in
    subst P c.over_part-view.ensures c.refutes_by.ensures.refuted

pub returns-clause-kept : goal.returns-clause-kept
returns-clause-kept c = rw (← c.over_part-view.ensures) c.refutes_by.ensures.kept
