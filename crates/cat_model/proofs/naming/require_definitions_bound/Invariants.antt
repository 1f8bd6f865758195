use Rattle.std.proofs.Common.{◌≡◌, map, take, true}
use Rattle.std.specs.List.{Contains}
use Rattle.cat_tree.specs.Tree.{Word, Defined, defined_of}
use Rattle.cat_model.specs.Lookups.{is_known}
use Rattle.cat_model.specs.Names.{free_names}
use Rattle.cat_model.proofs.naming.require_definitions_bound.Given as goal

abbrev pub invariant-loop-definition : goal.invariant-loop-definition
invariant-loop-definition l = (d : Defined) → Contains (take l.definition-index (map defined_of l.definitions)) d → (x : Word) → Contains (free_names d) x → is_known l.scope.names.items x ≡ true
