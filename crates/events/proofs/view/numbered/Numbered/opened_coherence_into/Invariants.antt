use Rattle.relations.specs.Relation.{IsExactly}
use Rattle.events.specs.Named.{event_count}
use Rattle.events.specs.Opened.{opened_of}
use Rattle.events.specs.Rows.{ByNumbers}
use Rattle.events.proofs.Cutting.{IsToldAmong}
use Rattle.events.proofs.view.numbered.Numbered.opened_coherence_into.Given as goal

abbrev pub invariant-loop-location : goal.invariant-loop-location
invariant-loop-location l = IsExactly (event_count l.self) (ByNumbers l.self (IsToldAmong (opened_of l.cut.locations l.cut.unplaced.now) l.self l.location)) l.rel
