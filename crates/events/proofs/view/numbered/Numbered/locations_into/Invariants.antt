use Rattle.relations.specs.Relation.{IsExactly}
use Rattle.events.specs.declared.named.RelName.TheVariants.{Loc}
use Rattle.events.specs.Named.{event_count, NamedRel}
use Rattle.events.specs.Rows.{IsBegun}
use Rattle.events.proofs.view.numbered.Numbered.locations_into.Given as goal

abbrev pub invariant-loop-number : goal.invariant-loop-number
invariant-loop-number l = IsExactly (event_count l.self) (IsBegun l.number (NamedRel l.self Loc)) l.rel
