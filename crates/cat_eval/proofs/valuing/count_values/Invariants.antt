use Rattle.std.proofs.Common.{◌≡◌, ◌≤◌, length, map, take}
use Rattle.cat_tree.specs.Tree.{defined_of, values_in}
use Rattle.cat_eval.proofs.valuing.count_values.Given as goal

abbrev pub invariant-loop-definition : goal.invariant-loop-definition
invariant-loop-definition l = record {
  count : l.count ≡ length (values_in (map defined_of (take l.definition-index l.definitions)));
  few : l.count ≤ l.definition-index;
}
