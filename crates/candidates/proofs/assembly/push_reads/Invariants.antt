use Rattle.std.proofs.Common.{◌≡◌, ◌++◌, drop}
use Rattle.std.specs.Prelude.{filter}
use Rattle.events.specs.Executions.{is_read}
use Rattle.candidates.proofs.assembly.push_reads.Given as goal

abbrev pub invariant-loop-event : goal.invariant-loop-event
invariant-loop-event l = l.reads.items ++ filter (λ e. is_read e.access) (drop l.event-index l.events) ≡ l.fn.reads.items ++ filter (λ e. is_read e.access) l.events
