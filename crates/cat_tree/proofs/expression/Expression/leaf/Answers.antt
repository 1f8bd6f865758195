use Rattle.std.proofs.Common.{◌∙◌, ◌++◌, ◌∷◌, [], ap}
use Rattle.cat_tree.specs.Terms.{term_in}
use Rattle.cat_tree.specs.declared.node.Node.TheVariants.{Leaf}
use Rattle.cat_tree.proofs.expression.Expression.leaf.Goals as goal

pub returns : goal.returns
returns c = ap (λ ns. term_in ns) (c.in_ok-push.ensures.items ∙ ap (λ ns. ns ++ Leaf c.args.leaf ∷ []) c.in_ok-nodes.ensures.items)
