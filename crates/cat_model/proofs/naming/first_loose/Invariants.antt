use Rattle.std.proofs.Common.{[], take}
use Rattle.std.specs.Prelude.{reverse}
use Rattle.cat_tree.specs.Terms.{left_by_all}
use Rattle.cat_model.specs.Along.{ForEach, IsFirstLoose}
use Rattle.cat_model.proofs.naming.first_loose.Given as goal

abbrev pub invariant-loop-node : goal.invariant-loop-node
invariant-loop-node l = ForEach (IsFirstLoose l.scope.names.items l.parameters) (reverse l.waiting.items) (left_by_all [] (take l.node-index l.node-items))
