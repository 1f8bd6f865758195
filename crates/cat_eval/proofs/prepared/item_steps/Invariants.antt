use Rattle.std.proofs.Common.{◌≡◌, take, map}
use Rattle.cat_eval.specs.Working.{steps_of_item}
use Rattle.cat_eval.proofs.prepared.item_steps.Given as goal

abbrev pub invariant-loop-item : goal.invariant-loop-item
invariant-loop-item l = l.item_steps.items ≡ map steps_of_item (take l.item-index l.items)
