use Rattle.std.proofs.Common.{◌≡◌, map, take}
use Rattle.cat_tree.specs.Tree.{defined_of, values_in}
use Rattle.cat_eval.specs.Outcomes.{entries_from}
use Rattle.cat_eval.proofs.valuing.let_entries.Given as goal

abbrev pub invariant-loop-definition : goal.invariant-loop-definition
invariant-loop-definition l = l.entries.items ≡ entries_from (values_in (map defined_of (take l.definition-index l.definitions))) l.from l.values
