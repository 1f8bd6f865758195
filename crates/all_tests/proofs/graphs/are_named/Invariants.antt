use Rattle.events.specs.Executions.{IsNamed}
use Rattle.all_tests.proofs.Parts.{AllBelow}
use Rattle.all_tests.proofs.graphs.are_named.Given as goal

abbrev pub invariant-loop-event : goal.invariant-loop-event
invariant-loop-event l = AllBelow (IsNamed l.init l.runs) l.events l.event-index
