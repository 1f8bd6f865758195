use Rattle.std.proofs.Common.{◌≡◌, [], map, take, All}
use Rattle.cat_tree.specs.Tree.{bound_of}
use Rattle.cat_model.specs.Behind.{World, Fit}
use Rattle.cat_model.specs.Denials.{marks, grouped, denied_in}
use Rattle.cat_model.proofs.binding.first_denied_in.Given as goal

abbrev pub invariant-loop-binding : goal.invariant-loop-binding
invariant-loop-binding l = (W : World) → Fit l.scope.names.items W → All (λ b. denied_in (marks (grouped (map bound_of l.group) W.marks) b.value) ≡ []) (take l.binding-index (map bound_of l.group))
