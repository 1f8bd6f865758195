use Rattle.std.proofs.Common.{◌≡◌, ◌++◌, length, map}
use Rattle.std.specs.Vec.Iter.{into_iter_items, into_iter_len}
use Rattle.cat_tree.specs.Terms.{operands_in, operators_in}
use Rattle.cat_tree.specs.Tree.{pair_of}
use Rattle.cat_tree.proofs.expression.making.unjoined.Given as goal

-- what is put in place, and what the pairs that are left add
abbrev pub invariant-loop-operator : goal.invariant-loop-operator
invariant-loop-operator l = record {
  nodes : l.nodes.items ++ operands_in (map pair_of (into_iter_items l.operator-iterator)) ≡ operands_in (map pair_of l.fn.lefts.items);
  operators : l.operators.items ++ operators_in (map pair_of (into_iter_items l.operator-iterator)) ≡ l.fn.operators.items ++ operators_in (map pair_of l.fn.lefts.items);
  left : into_iter_len l.operator-iterator ≡ length (into_iter_items l.operator-iterator);
}
