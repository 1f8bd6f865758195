use Rattle.std.proofs.Common.{◌≡◌, ◌+◌, drop, take, length}
use Rattle.candidates.specs.Executions.{reads}
use Rattle.candidates.proofs.assembly.reads_before.Given as goal

abbrev pub invariant-loop-run : goal.invariant-loop-run
invariant-loop-run l = l.count ≡ length (reads (take l.threads l.runs)) + length (reads (drop l.run-index l.later))
