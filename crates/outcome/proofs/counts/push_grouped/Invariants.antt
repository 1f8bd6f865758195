use Rattle.std.proofs.Common.{◌≡◌, ◌++◌, length}
use Rattle.outcome.specs.Counts as texts
use Rattle.outcome.proofs.counts.push_grouped.Given as goal

abbrev pub invariant-loop-digit : goal.invariant-loop-digit
invariant-loop-digit l = l.text.items ++ texts.grouped l.left ≡ l.initial.text.items ++ texts.grouped l.digits

abbrev pub decreases-loop-digit : goal.decreases-loop-digit
decreases-loop-digit l = length l.left
