use Rattle.std.proofs.Common.{◌≤◌, ◌-◌}
use Rattle.candidates.specs.Walks.{NoneFrom}
use Rattle.candidates.proofs.walk.search_near.Given as goal

abbrev pub decreases-loop-number : goal.decreases-loop-number
decreases-loop-number l = l.to - l.number

abbrev pub invariant-loop-number : goal.invariant-loop-number
invariant-loop-number l = record {
  order : l.from ≤ l.number;
  none : NoneFrom l.space l.from l.number;
}
