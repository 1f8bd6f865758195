use Rattle.std.proofs.Common.{◌≡◌, ◌++◌, drop}
use Rattle.candidates.specs.Executions.{writes_from}
use Rattle.candidates.proofs.assembly.push_writes.Given as goal

abbrev pub invariant-loop-place : goal.invariant-loop-place
invariant-loop-place l = l.writes.items ++ writes_from l.location l.thread l.place (drop l.place l.events) ≡ l.fn.writes.items ++ writes_from l.location l.thread 0 l.events
