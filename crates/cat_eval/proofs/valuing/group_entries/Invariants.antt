use Rattle.std.proofs.Common.{◌≡◌, map, take}
use Rattle.cat_tree.specs.Tree.{bound_of}
use Rattle.cat_eval.specs.Outcomes.{entries_from}
use Rattle.cat_eval.proofs.valuing.group_entries.Given as goal

abbrev pub invariant-loop-number : goal.invariant-loop-number
invariant-loop-number l = l.entries.items ≡ entries_from (map bound_of (take l.number l.bindings)) l.from l.values
