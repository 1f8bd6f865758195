use Rattle.std.proofs.Common.{◌∙◌, map, ap, sym}
use Rattle.litmus_tree.specs.Chains.{run}
use Rattle.litmus_tree.specs.Spellings.{growth_over}
use Rattle.litmus_tree.specs.Tree.{leaf_of, growth_of}
use Rattle.litmus_tree.proofs.Spelled.{term_along}
use Rattle.litmus_tree.proofs.expression.+spelling.Goals as goal

pub Expression::spell-loop-link-init : goal.Expression::spell-loop-link-init
Expression::spell-loop-link-init t c =
    let rest = map growth_of c.args.self.now.rest.items in
    ap (λ s. run growth_over s rest) c.in_ok-spell.ensures ∙ sym (term_along c.args.key.now (leaf_of c.args.self.now.first) rest)
