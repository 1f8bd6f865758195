use Rattle.std.proofs.Common.{◌≡◌, ◌≤◌}
use Rattle.listings.specs.Lists.{factorial}
use Rattle.candidates.specs.declared.fault.TheConstants.{MOST_CANDIDATES}
use Rattle.candidates.proofs.capped.capped_factorial.Given as goal

abbrev pub invariant-loop-factor : goal.invariant-loop-factor
invariant-loop-factor l = record { is : l.product ≡ factorial l.factor; capped : factorial l.factor ≤ MOST_CANDIDATES; within : l.factor ≤ l.count }
