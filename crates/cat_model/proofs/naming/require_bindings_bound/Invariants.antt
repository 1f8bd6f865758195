use Rattle.std.proofs.Common.{◌≡◌, map, take, true}
use Rattle.std.specs.List.{Contains}
use Rattle.cat_tree.specs.Tree.{Word, Bound, bound_of}
use Rattle.cat_model.specs.Lookups.{is_known}
use Rattle.cat_model.specs.Names.{names}
use Rattle.cat_model.proofs.naming.require_bindings_bound.Given as goal

abbrev pub invariant-loop-binding : goal.invariant-loop-binding
invariant-loop-binding l = (b : Bound) → Contains (take l.binding-index (map bound_of l.bindings)) b → (x : Word) → Contains (names b.value) x → is_known l.scope.names.items x ≡ true
