use Rattle.std.proofs.Common.{◌≡◌, ◌≤◌, ◌+◌, drop, length}
use Rattle.std.specs.Prelude.{filter}
use Rattle.events.specs.Executions.{is_read}
use Rattle.candidates.proofs.assembly.count_reads.Given as goal

abbrev pub invariant-loop-event : goal.invariant-loop-event
invariant-loop-event l = (l.count + length (filter (λ e. is_read e.access) (drop l.event-index l.events)) ≡ length (filter (λ e. is_read e.access) l.events)) × (l.count ≤ l.event-index)
