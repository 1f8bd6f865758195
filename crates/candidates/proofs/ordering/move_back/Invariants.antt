use Rattle.std.proofs.Common.{◌≡◌, ◌≤◌, ◌-◌, length}
use Rattle.candidates.proofs.Moves.{IsMoved}
use Rattle.candidates.proofs.ordering.move_back.Given as goal

abbrev pub decreases-loop-place : goal.decreases-loop-place
decreases-loop-place l = l.place - l.to

abbrev pub invariant-loop-place : goal.invariant-loop-place
invariant-loop-place l = record {
  order : l.to ≤ l.place;
  within : l.place ≤ l.from;
  len : length l.order ≡ length l.initial.order;
  moved : IsMoved l.initial.order l.from l.order l.place;
}
