use Rattle.relations.specs.Relation.{In, IsExactly}
use Rattle.events.specs.Named.{event_count}
use Rattle.events.specs.Rows.{ByNumbers, ReadsAmong}
use Rattle.events.proofs.view.numbered.Numbered.reads_into.Given as goal

abbrev pub invariant-loop-read : goal.invariant-loop-read
invariant-loop-read l = IsExactly (event_count l.self) (ByNumbers l.self (ReadsAmong l.self l.sources l.read)) l.rel × IsExactly l.rel.count (λ i j. In l.rel j i) l.turned
