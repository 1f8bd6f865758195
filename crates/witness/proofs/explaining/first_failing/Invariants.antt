use Rattle.std.proofs.Common.{take}
use Rattle.witness.specs.Reasons.{Permit}
use Rattle.witness.proofs.explaining.first_failing.Given as goal

abbrev pub invariant-loop-number : goal.invariant-loop-number
invariant-loop-number l = Permit (take l.number l.outcomes)
