use Rattle.std.proofs.Common.{◌<◌}
use Rattle.relations.specs.Events.{IsExactlySet}
use Rattle.events.specs.Named.{event_count}
use Rattle.events.specs.Rows.{ByNumber, IsAccessOf}
use Rattle.events.proofs.view.numbered.Numbered.accesses.Given as goal

abbrev pub invariant-loop-number : goal.invariant-loop-number
invariant-loop-number l = IsExactlySet (event_count l.self) (λ i. (i < l.number) × ByNumber l.self (IsAccessOf l.self l.location) i) l.numbers
