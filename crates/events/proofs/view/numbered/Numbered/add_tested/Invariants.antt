use Rattle.relations.specs.Relation.{IsExactly}
use Rattle.events.specs.Rows.{name_of}
use Rattle.events.specs.Named.{event_count, NamedRel}
use Rattle.events.proofs.Filling.{Before}
use Rattle.events.proofs.view.numbered.Numbered.add_tested.Given as goal

abbrev pub invariant-loop-to : goal.invariant-loop-to
invariant-loop-to l = IsExactly (event_count l.self) (Before l.from l.to (NamedRel l.self (name_of l.name))) l.rel
