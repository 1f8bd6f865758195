use Rattle.std.proofs.Common.{◌≡◌, ◌≤◌, ◌^◌}
use Rattle.candidates.specs.declared.fault.TheConstants.{MOST_CANDIDATES}
use Rattle.candidates.proofs.capped.capped_power.Given as goal

abbrev pub invariant-loop-taken : goal.invariant-loop-taken
invariant-loop-taken l = record { is : l.power ≡ l.base ^ l._taken; capped : l.base ^ l._taken ≤ MOST_CANDIDATES; within : l._taken ≤ l.exponent }
