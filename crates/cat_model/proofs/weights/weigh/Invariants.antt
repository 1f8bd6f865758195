use Rattle.std.proofs.Common.{length}
use Rattle.cat_tree.specs.Tree.{term_of}
use Rattle.cat_model.specs.Weights.{Kept}
use Rattle.cat_model.proofs.weights.weigh.Given as goal

abbrev pub invariant-loop-last : goal.invariant-loop-last
invariant-loop-last l = Kept l.measure l.scope.names.items l.parameters (term_of l.expression) l.weight l.nodes l.tally.weights.items l.tally.waiting.items

abbrev pub decreases-loop-last : goal.decreases-loop-last
decreases-loop-last l = length l.nodes
