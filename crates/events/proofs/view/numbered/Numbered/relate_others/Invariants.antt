use Rattle.std.proofs.Common.{◌⊎◌, take}
use Rattle.relations.specs.Relation.{In, IsExactly}
use Rattle.events.specs.Named.{event_count}
use Rattle.events.specs.Rows.{ByNumbers, AreTwoOf}
use Rattle.events.proofs.view.numbered.Numbered.relate_others.Given as goal

abbrev pub invariant-loop-event : goal.invariant-loop-event
invariant-loop-event l = IsExactly (event_count l.self) (λ i j. In l.fn.rel i j ⊎ ByNumbers l.self (AreTwoOf (take l.event-index l.events) l.others) i j) l.rel
