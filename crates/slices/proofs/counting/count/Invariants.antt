use Rattle.std.proofs.Common.{◌≡◌, ◌-◌, map}
use Rattle.candidates.specs.Candidates.{choices_of}
use Rattle.slices.specs.Gathered.{IsKept}
use Rattle.slices.specs.Passing.{Knows}
use Rattle.slices.specs.Slots.{slot_of}
use Rattle.slices.specs.Steady.{AreSteady}
use Rattle.slices.proofs.Counted.{IsUnderWay}
use Rattle.slices.proofs.counting.count.Given as goal

abbrev pub decreases-loop-gathering : goal.decreases-loop-gathering
decreases-loop-gathering l = l.walk.to - l.walk.next

abbrev pub invariant-loop-gathering : goal.invariant-loop-gathering
invariant-loop-gathering l = record {
  counted : IsUnderWay l.work.test l.work.model.items l.fn.walk.next l.fn.walk.to l.walk l.gathering.finding;
  kept : IsKept l.gathering;
  slots : l.slots ≡ map (slot_of l.work.test) l.gathering.finding.places;
  model : l.evaluator.items ≡ l.work.model.items;
  steady : AreSteady l.walk.space l.walk.next l.steady l.evaluator.relied;
  known : Knows (choices_of l.work.test) l.work.model.items l.pruner;
}
