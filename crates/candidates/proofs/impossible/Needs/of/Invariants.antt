use Rattle.std.proofs.Common.{take}
use Rattle.candidates.specs.Impossible.{AreGiven, AreWanted}
use Rattle.candidates.proofs.impossible.Needs.of.Given as goal

abbrev pub invariant-loop-event : goal.invariant-loop-event
invariant-loop-event l = record {
  wants : AreWanted l.init l.stores (take l.event-index l.events) l.wants;
  gives : AreGiven l.stores (take l.event-index l.events) l.gives;
}
