use Rattle.std.proofs.Common.{List, map, drop}
use Rattle.cat_tree.specs.Tree.{defined_of, values_in}
use Rattle.cat_model.specs.Behind.{World, Fit}
use Rattle.cat_model.specs.Counts.{IsCount, CountsUpTo}
use Rattle.cat_model.specs.Scopes.{Charge, charges_for}
use Rattle.cat_model.proofs.charging.charge_definitions.Given as goal

abbrev pub invariant-loop-definition : goal.invariant-loop-definition
invariant-loop-definition l = (W : World) (cs : List Charge) → Fit l.scope.names.items W → IsCount l.total cs →
    CountsUpTo l.sum cs (charges_for W.sizes W.depths (values_in (map defined_of (drop l.definition-index l.definitions)))) (charges_for W.sizes W.depths (values_in (map defined_of l.definitions)))
