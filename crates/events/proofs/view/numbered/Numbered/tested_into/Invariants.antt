use Rattle.std.proofs.Common.{◌<◌}
use Rattle.relations.specs.Relation.{IsExactly}
use Rattle.events.specs.Rows.{name_of}
use Rattle.events.specs.Named.{event_count, NamedRel}
use Rattle.events.proofs.view.numbered.Numbered.tested_into.Given as goal

abbrev pub invariant-loop-from : goal.invariant-loop-from
invariant-loop-from l = IsExactly (event_count l.self) (λ i j. (i < l.from) × NamedRel l.self (name_of l.name) i j) l.into
