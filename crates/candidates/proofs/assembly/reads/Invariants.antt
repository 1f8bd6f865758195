use Rattle.std.proofs.Common.{◌≡◌, ◌++◌, drop}
use Rattle.candidates.specs.Executions.{reads}
use Rattle.candidates.proofs.assembly.reads.Given as goal

abbrev pub invariant-loop-run : goal.invariant-loop-run
invariant-loop-run l = l.reads.items ++ reads (drop l.run-index l.later) ≡ reads l.runs
