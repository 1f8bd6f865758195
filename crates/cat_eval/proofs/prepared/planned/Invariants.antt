use Rattle.std.proofs.Common.{◌≡◌, take, map}
use Rattle.cat_tree.specs.Tree.{clause_of}
use Rattle.cat_eval.specs.Code.{planned_clause}
use Rattle.cat_eval.specs.Working.{steps_of_item}
use Rattle.cat_eval.proofs.prepared.planned.Given as goal

abbrev pub invariant-loop-number : goal.invariant-loop-number
invariant-loop-number l = record {
  clauses : map planned_clause l.planned.items ≡ take l.number (map clause_of l.items);
  item_steps : map steps_of_item l.planned.items ≡ take l.number l.item_steps;
}
