use Rattle.std.proofs.Common.{◌<◌}
use Rattle.relations.specs.Events.{IsExactlySet}
use Rattle.events.specs.Named.{event_count, NamedSet}
use Rattle.events.proofs.view.numbered.Numbered.set.Given as goal

abbrev pub invariant-loop-number : goal.invariant-loop-number
invariant-loop-number l = IsExactlySet (event_count l.self) (λ i. (i < l.number) × NamedSet l.self l.name i) l.set
