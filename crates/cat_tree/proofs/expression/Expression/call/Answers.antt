use Rattle.std.proofs.Common.{rules}
use Rattle.cat_tree.proofs.Nodes.{call_term, call_whole}
use Rattle.cat_tree.proofs.expression.Expression.call.Goals as goal

pub invariant_of-result : goal.invariant_of-result
invariant_of-result c = record { whole = search (rules, call_whole c.args.name c.args.arguments.items) }

pub returns : goal.returns
returns c = search (rules, call_term c.args.name c.args.arguments.items)
