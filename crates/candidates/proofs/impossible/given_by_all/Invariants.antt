use Rattle.std.proofs.Common.{take}
use Rattle.candidates.specs.Impossible.{AreGiven}
use Rattle.candidates.proofs.impossible.given_by_all.Given as goal

abbrev pub invariant-loop-event : goal.invariant-loop-event
invariant-loop-event l = AreGiven l.stores (take l.event-index l.events) l.numbers
