use Rattle.relations.specs.Relation.{IsExactly}
use Rattle.events.specs.Named.{event_count}
use Rattle.events.specs.Rows.{ByNumbers, IsBeforeAmong}
use Rattle.events.proofs.view.numbered.Numbered.coherence_into.Given as goal

abbrev pub invariant-loop-order : goal.invariant-loop-order
invariant-loop-order l = IsExactly (event_count l.self) (ByNumbers l.self (IsBeforeAmong l.self l.order-index)) l.rel
