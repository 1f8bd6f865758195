use Rattle.candidates.specs.Readings.{IsTail}
use Rattle.candidates.proofs.reading.differing.Given as goal

abbrev pub invariant-loop-from : goal.invariant-loop-from
invariant-loop-from l = IsTail l.page (record { from = l.from; ways = l.ways })

abbrev pub decreases-loop-from : goal.decreases-loop-from
decreases-loop-from l = l.from
