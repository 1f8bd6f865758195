use Rattle.std.proofs.Common.{◌≡◌, ◌-◌, ◌+◌, length}
use Rattle.relations.specs.Relation.{In}
use Rattle.witness.proofs.Shortest.{IsLeft, IsBegun}
use Rattle.witness.proofs.cycles.cycle_through.Given as goal

abbrev pub invariant-loop-step : goal.invariant-loop-step
invariant-loop-step l = record {
  begun : IsBegun (In l.relation) l.cycle.items l.last l.event;
  left : IsLeft (In l.relation) (length l.powers - l.step) l.last l.event;
  long : length l.cycle.items ≡ l.step + 1;
}
