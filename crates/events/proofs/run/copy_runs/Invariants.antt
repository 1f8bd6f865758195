use Rattle.std.proofs.Common.{◌≡◌, take}
use Rattle.events.proofs.run.copy_runs.Given as goal

abbrev pub invariant-loop-run : goal.invariant-loop-run
invariant-loop-run l = l.copies.items ≡ take l.run-index l.runs
