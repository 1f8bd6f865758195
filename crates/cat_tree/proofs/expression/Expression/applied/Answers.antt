use Rattle.std.proofs.Common.{◌∙◌, ap}
use Rattle.cat_tree.specs.Terms.{term_in}
use Rattle.cat_tree.proofs.Nodes.{same_whole, sign_term, sign_whole}
use Rattle.cat_tree.proofs.expression.Expression.applied.Goals as goal

pub invariant_of-result : goal.invariant_of-result
invariant_of-result c = record { whole = same_whole c.push.new.self.items _ c.in_ok-push.ensures.items (sign_whole c.args.self.nodes.items c.args.sign c.args.self.whole) }

pub returns : goal.returns
returns c = ap (λ ns. term_in ns) c.in_ok-push.ensures.items ∙ sign_term c.args.self.nodes.items c.args.sign c.args.self.whole
