use Rattle.relations.specs.Events.{IsExactlySet}
use Rattle.events.specs.Named.{event_count}
use Rattle.events.proofs.Cutting.{IsNumberAmong}
use Rattle.events.proofs.view.numbered.Numbered.numbers_of.Given as goal

abbrev pub invariant-loop-event : goal.invariant-loop-event
invariant-loop-event l = IsExactlySet (event_count l.self) (IsNumberAmong l.self l.events l.event-index) l.numbers
