use Rattle.std.proofs.Common.{◌≡◌, map, drop}
use Rattle.cat_tree.specs.Tree.{bound_of}
use Rattle.cat_model.specs.Behind.{World, Fit, group_above}
use Rattle.cat_model.proofs.binding.bind_group.Given as goal

abbrev pub invariant-loop-binding : goal.invariant-loop-binding
invariant-loop-binding l = (W : World) → Fit l.fn.scope.names.items W → (U : World) × Fit l.scope.names.items U × (group_above (map bound_of (drop l.binding-index l.bindings)) U ≡ group_above (map bound_of l.bindings) W)
