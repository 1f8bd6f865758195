use Rattle.std.proofs.Common.{◌≡◌, Some, map, take, All}
use Rattle.cat_tree.specs.Tree.{bound_of}
use Rattle.cat_model.specs.Behind.{World, Fit}
use Rattle.cat_model.specs.Sorts.{sort}
use Rattle.cat_model.specs.declared.sort.Sort.TheVariants.{Relation}
use Rattle.cat_model.proofs.binding.require_relations.Given as goal

abbrev pub invariant-loop-binding : goal.invariant-loop-binding
invariant-loop-binding l = (W : World) → Fit l.scope.names.items W → All (λ b. sort W.sorts b.value ≡ Some Relation) (take l.binding-index (map bound_of l.bindings))
