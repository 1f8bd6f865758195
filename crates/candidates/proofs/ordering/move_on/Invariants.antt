use Rattle.std.proofs.Common.{◌≡◌, ◌≤◌, ◌-◌, length}
use Rattle.candidates.proofs.Moves.{IsMoved}
use Rattle.candidates.proofs.ordering.move_on.Given as goal

abbrev pub decreases-loop-place : goal.decreases-loop-place
decreases-loop-place l = l.to - l.place

abbrev pub invariant-loop-place : goal.invariant-loop-place
invariant-loop-place l = record {
  within : l.place ≤ l.to;
  len : length l.order ≡ length l.initial.order;
  moved : IsMoved l.initial.order l.from l.order l.place;
}
