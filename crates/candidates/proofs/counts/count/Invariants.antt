use Rattle.std.proofs.Common.{◌≡◌, take}
use Rattle.std.specs.List.{count_by}
use Rattle.events.specs.Executions.{writes_to}
use Rattle.candidates.specs.Bounds.{reads_from}
use Rattle.candidates.proofs.counts.count.Given as goal

abbrev pub invariant-loop-event : goal.invariant-loop-event
invariant-loop-event l = record {
  reads : l.reads ≡ count_by (reads_from l.location) (take l.event-index l.events);
  writes : l.writes ≡ count_by (writes_to l.location) (take l.event-index l.events);
}
