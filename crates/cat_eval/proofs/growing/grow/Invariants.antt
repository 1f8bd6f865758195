use Rattle.cat_eval.proofs.Grown.{GrownTo}
use Rattle.cat_eval.proofs.growing.grow.Given as goal

abbrev pub invariant-loop-item : goal.invariant-loop-item
invariant-loop-item l = GrownTo l.change l.steps l.items l.growths.items l.item-index
