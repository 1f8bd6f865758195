use Rattle.std.proofs.Common.{◌≡◌, length}
use Rattle.cat_model.specs.Weights.{place_in}
use Rattle.cat_model.proofs.weights.place_of.Given as goal

abbrev pub invariant-loop-last : goal.invariant-loop-last
invariant-loop-last l = place_in l.rest l.name ≡ place_in l.parameters l.name

abbrev pub decreases-loop-last : goal.decreases-loop-last
decreases-loop-last l = length l.rest
