use Rattle.std.proofs.Common.{◌≡◌, [], List, drop, map}
use Rattle.std.specs.Prelude.{reverse}
use Rattle.cat_tree.specs.Terms.{Term, left_by_all}
use Rattle.cat_model.specs.Marked.{AreTraced}
use Rattle.cat_model.proofs.denials.trace_all.Given as goal

-- the nodes that are left leave on the terms so far what all leave, and the traces are those of the terms so far
abbrev pub invariant-loop-node : goal.invariant-loop-node
invariant-loop-node l = (ts : List Term) × (left_by_all ts (drop l.node-index l.expression.nodes.items) ≡ left_by_all [] l.expression.nodes.items) × AreTraced l.scope.names.items (map (λ x. x.now) l.tracked) (reverse (map (λ a. a.items) l.waiting.items)) ts
