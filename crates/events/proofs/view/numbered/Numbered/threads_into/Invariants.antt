use Rattle.relations.specs.Relation.{IsExactly}
use Rattle.events.specs.Named.{event_count, IsBefore, IsInternal}
use Rattle.events.specs.Rows.{ByNumbers, IsAmongThreads, Starting}
use Rattle.events.proofs.view.numbered.Numbered.threads_into.Given as goal

abbrev pub invariant-loop-thread : goal.invariant-loop-thread
invariant-loop-thread l = record {
  po : IsExactly (event_count l.self) (ByNumbers l.self (Starting (IsAmongThreads l.thread) IsBefore)) l.po;
  int : IsExactly (event_count l.self) (ByNumbers l.self (Starting (IsAmongThreads l.thread) IsInternal)) l.int;
}
