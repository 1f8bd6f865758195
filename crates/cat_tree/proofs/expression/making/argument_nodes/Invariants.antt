use Rattle.std.proofs.Common.{◌≡◌, ◌++◌, length, map}
use Rattle.std.specs.Vec.Iter.{into_iter_items, into_iter_len}
use Rattle.cat_tree.specs.Terms.{postorders, terms_of}
use Rattle.cat_tree.specs.Tree.{term_of}
use Rattle.cat_tree.proofs.expression.making.argument_nodes.Given as goal

-- what is put in place, and what the arguments that are left add
abbrev pub invariant-loop-argument : goal.invariant-loop-argument
invariant-loop-argument l = record {
  nodes : l.nodes.items ++ postorders (terms_of (map term_of (into_iter_items l.argument-iterator))) ≡ postorders (terms_of (map term_of l.fn.arguments.items));
  left : into_iter_len l.argument-iterator ≡ length (into_iter_items l.argument-iterator);
}
