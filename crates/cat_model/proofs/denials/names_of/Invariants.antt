use Rattle.std.proofs.Common.{◌≡◌, map, take}
use Rattle.cat_tree.specs.Tree.{bound_of}
use Rattle.cat_model.proofs.denials.names_of.Given as goal

abbrev pub invariant-loop-binding : goal.invariant-loop-binding
invariant-loop-binding l = map (λ x. x.now) l.names.items ≡ map (λ b. b.name) (map bound_of (take l.binding-index l.group))
