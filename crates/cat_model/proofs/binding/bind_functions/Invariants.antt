use Rattle.std.proofs.Common.{◌≡◌, ◌++◌, map, drop}
use Rattle.cat_tree.specs.Tree.{defined_of, functions_in}
use Rattle.cat_model.specs.Behind.{World, Fit, functions_above}
use Rattle.cat_model.proofs.binding.bind_functions.Given as goal

abbrev pub invariant-loop-definition : goal.invariant-loop-definition
invariant-loop-definition l = (B W : World) → Fit l.scope.names.items B → Fit (l.scope.names.items ++ l.fn.above.items) W →
    (U : World) × Fit (l.scope.names.items ++ l.above.items) U × (functions_above B (functions_in (map defined_of (drop l.definition-index l.definitions))) U ≡ functions_above B (functions_in (map defined_of l.definitions)) W)
