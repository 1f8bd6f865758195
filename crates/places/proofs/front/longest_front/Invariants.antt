use Rattle.std.proofs.Common.{◌≤◌, ◌<◌, ℕ, length}
use Rattle.places.specs.Fronts.{FrontHasTokens}
use Rattle.places.proofs.front.longest_front.Given as goal

abbrev pub invariant-loop-end : goal.invariant-loop-end
invariant-loop-end l = (l.end ≤ length l.text) × ((m : ℕ) → l.end < m → m ≤ length l.text → ¬ FrontHasTokens l.dialect l.text m)

abbrev pub decreases-loop-end : goal.decreases-loop-end
decreases-loop-end l = l.end
