use Rattle.std.proofs.Common.{List, map, drop}
use Rattle.cat_tree.specs.Tree.{bound_of}
use Rattle.cat_model.specs.Behind.{World, Fit}
use Rattle.cat_model.specs.Counts.{IsCount, CountsUpTo}
use Rattle.cat_model.specs.Scopes.{Charge, charges_for}
use Rattle.cat_model.proofs.charging.charge_bindings.Given as goal

abbrev pub invariant-loop-binding : goal.invariant-loop-binding
invariant-loop-binding l = (W : World) (cs : List Charge) → Fit l.scope.names.items W → IsCount l.total cs →
    CountsUpTo l.sum cs (charges_for W.sizes W.depths (map bound_of (drop l.binding-index l.bindings))) (charges_for W.sizes W.depths (map bound_of l.bindings))
