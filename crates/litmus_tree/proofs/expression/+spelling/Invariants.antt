use Rattle.std.proofs.Common.{◌≡◌, drop, map}
use Rattle.litmus_tree.specs.Chains.{run}
use Rattle.litmus_tree.specs.Spellings.{term_over, growth_over}
use Rattle.litmus_tree.specs.Tree.{growth_of, term_of}
use Rattle.litmus_tree.proofs.expression.+spelling.Given as goal

-- the links that are left, over what is written, are the whole
abbrev pub invariant-Expression::spell-loop-link : goal.invariant-Expression::spell-loop-link
invariant-Expression::spell-loop-link l = run growth_over l.key (map growth_of (drop l.link-index l.self.rest.items)) ≡ term_over (term_of l.self) l.fn.key
