use Rattle.std.proofs.Common.{◌≡◌, [], List, drop, map, length}
use Rattle.std.specs.Prelude.{reverse}
use Rattle.cat_tree.specs.Terms.{Term, left_by_all}
use Rattle.cat_model.specs.Classing.{AreFlat, Kept}
use Rattle.cat_model.proofs.schemes.scheme_of.Given as goal

-- the nodes that are left leave on the terms so far what all leave, and the classes are those of the terms so far
abbrev pub invariant-loop-node : goal.invariant-loop-node
invariant-loop-node l = record {
  flat : AreFlat l.classes.items.items;
  long : length l.classes.items.items ≡ length l.parameters;
  kept : (ts : List Term) × (left_by_all ts (drop l.node-index l.body.nodes.items) ≡ left_by_all [] l.body.nodes.items) × Kept l.scope.names.items (map (λ x. x.now) l.parameters) l.classes (reverse l.waiting.items) ts;
}
