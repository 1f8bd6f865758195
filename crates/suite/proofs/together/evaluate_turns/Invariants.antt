use Rattle.std.proofs.Common.{◌-◌}
use Rattle.suite.proofs.EachSlice.{Turned}
use Rattle.suite.proofs.together.evaluate_turns.Given as goal

abbrev pub invariant-loop-slice : goal.invariant-loop-slice
invariant-loop-slice l = Turned l.work l.round l.thread l.found.items l.slice

abbrev pub decreases-loop-slice : goal.decreases-loop-slice
decreases-loop-slice l = l.round.to - l.slice
