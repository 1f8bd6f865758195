use Rattle.std.proofs.Common.{map, rules}
use Rattle.cat_tree.specs.Tree.{pair_of, term_of}
use Rattle.cat_tree.proofs.Nodes.{nest_term, nest_whole}
use Rattle.cat_tree.proofs.expression.Expression.nested.Goals as goal

pub invariant_of-result : goal.invariant_of-result
invariant_of-result c =
    let told = nest_whole (map pair_of c.args.lefts.items) (term_of c.args.last) in
    record { whole = search (rules, told) }

pub returns : goal.returns
returns c =
    let told = nest_term (map pair_of c.args.lefts.items) (term_of c.args.last) in
    search (rules, told)
