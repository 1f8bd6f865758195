use Rattle.std.proofs.Common.{◌≡◌, drop, map}
use Rattle.c11_threads.specs.Contents.{content_in, passed}
use Rattle.litmus_tree.specs.Chains.{run}
use Rattle.litmus_tree.specs.Tree.{growth_of, term_of}
use Rattle.c11_threads.proofs.content.+evaluating.Given as goal

-- the links that are left, from what all before them gives, give what all gives
abbrev pub invariant-content_of-loop-link : goal.invariant-content_of-loop-link
invariant-content_of-loop-link l = run (passed l.names l.registers) l.so_far (map growth_of (drop l.link-index l.expression.rest.items)) ≡ content_in l.names l.registers (term_of l.expression)
