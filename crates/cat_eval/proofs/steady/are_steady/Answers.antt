use Rattle.std.proofs.Common.{rules, subst}
use Rattle.cat_eval.specs.Code.{planned_clause}
use Rattle.cat_eval.specs.Growth.{IsSteadyItem}
use Rattle.cat_eval.specs.declared.plan.PlannedItem.{PlannedItem}
use Rattle.cat_eval.proofs.Recalled.{all_next}
use Rattle.cat_eval.proofs.steady.are_steady.Goals as goal

pub loop-item-preserved : goal.loop-item-preserved
loop-item-preserved c =
    let P : PlannedItem → Type 0 = λ p. IsSteadyItem c.args.growths.now p.to (planned_clause p) in
    all_next P c.args.items.now c.loop-item.item-index c.item-item.result c.loop-item-test.true c.loop-item.invariant (subst P c.item-item.is (c.is_steady_item.ensures (search rules)))
