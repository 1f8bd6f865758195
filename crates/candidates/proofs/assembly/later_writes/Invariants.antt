use Rattle.std.proofs.Common.{◌≡◌, ◌++◌, drop}
use Rattle.candidates.specs.Executions.{writes_from_thread, later_writes}
use Rattle.candidates.proofs.assembly.later_writes.Given as goal

abbrev pub invariant-loop-thread : goal.invariant-loop-thread
invariant-loop-thread l = l.writes.items ++ writes_from_thread l.location l.thread (drop l.thread l.runs) ≡ later_writes l.runs l.location
