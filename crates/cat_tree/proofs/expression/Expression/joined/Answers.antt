use Rattle.std.proofs.Common.{◌∙◌, ◌++◌, ◌∷◌, [], ap}
use Rattle.cat_tree.specs.Terms.{term_in}
use Rattle.cat_tree.specs.Tree.{term_of}
use Rattle.cat_tree.specs.declared.node.Node.TheVariants.{Infix}
use Rattle.cat_tree.proofs.Nodes.{same_whole, infix_term, infix_whole}
use Rattle.cat_tree.proofs.expression.Expression.joined.Goals as goal

pub invariant_of-result : goal.invariant_of-result
invariant_of-result c =
    let all = c.in_ok-push.ensures.items ∙ ap (λ ns. ns ++ Infix c.args.operator ∷ []) c.in_ok-append.ensures in
    record { whole = same_whole c.push.new.self.items _ all (infix_whole c.args.self.nodes.items (term_of c.args.operand) c.args.operator c.args.self.whole) }

pub returns : goal.returns
returns c =
    let all = c.in_ok-push.ensures.items ∙ ap (λ ns. ns ++ Infix c.args.operator ∷ []) c.in_ok-append.ensures in
    ap (λ ns. term_in ns) all ∙ infix_term c.args.self.nodes.items (term_of c.args.operand) c.args.operator c.args.self.whole
