use Rattle.std.proofs.Common.{◌≡◌, ◌++◌, map, drop, IsSome, All}
use Rattle.std.specs.List.{Contains}
use Rattle.cat_tree.specs.Tree.{Bound, defined_of, values_in}
use Rattle.cat_model.specs.Behind.{World, Fit, values_above}
use Rattle.cat_model.specs.Sorts.{sort}
use Rattle.cat_model.proofs.binding.bind_values.Given as goal

abbrev pub invariant-loop-definition : goal.invariant-loop-definition
invariant-loop-definition l = record {
  fit : (B W : World) → Fit l.scope.names.items B → Fit (l.scope.names.items ++ l.fn.above.items) W →
      (U : World) × Fit (l.scope.names.items ++ l.above.items) U × (values_above B (values_in (map defined_of (drop l.definition-index l.definitions))) U ≡ values_above B (values_in (map defined_of l.definitions)) W);
  sorted : (B : World) → Fit l.scope.names.items B → All (λ b. IsSome (sort B.sorts b.value)) (values_in (map defined_of (drop l.definition-index l.definitions))) → All (λ b. IsSome (sort B.sorts b.value)) (values_in (map defined_of l.definitions));
  among : (b : Bound) → Contains (values_in (map defined_of (drop l.definition-index l.definitions))) b → Contains (values_in (map defined_of l.definitions)) b;
}
