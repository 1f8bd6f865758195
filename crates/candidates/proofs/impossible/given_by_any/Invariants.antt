use Rattle.std.proofs.Common.{take}
use Rattle.events.specs.Executions.{ThreadRun}
use Rattle.listings.specs.Lists.{IsIn}
use Rattle.candidates.specs.Impossible.{AreGiven}
use Rattle.candidates.proofs.impossible.given_by_any.Given as goal

abbrev pub invariant-loop-run : goal.invariant-loop-run
invariant-loop-run l = (run : ThreadRun) → IsIn run (take l.run-index l.runs) → AreGiven l.stores run.events l.numbers
