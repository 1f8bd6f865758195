use Rattle.std.proofs.Common.{All, take}
use Rattle.cat_eval.specs.Code.{planned_clause}
use Rattle.cat_eval.specs.Growth.{IsSteadyItem}
use Rattle.cat_eval.proofs.steady.are_steady.Given as goal

abbrev pub invariant-loop-item : goal.invariant-loop-item
invariant-loop-item l = All (λ p. IsSteadyItem l.growths p.to (planned_clause p)) (take l.item-index l.items)
