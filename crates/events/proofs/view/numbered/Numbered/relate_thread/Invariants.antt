use Rattle.std.proofs.Common.{◌⊎◌}
use Rattle.relations.specs.Events.{IsExactlySet}
use Rattle.relations.specs.Relation.{In, IsExactly}
use Rattle.events.specs.Named.{event_count, IsBefore}
use Rattle.events.specs.Rows.{ByNumber, ByNumbers, IsFrom, Starting}
use Rattle.events.proofs.view.numbered.Numbered.relate_thread.Given as goal

abbrev pub invariant-loop-place : goal.invariant-loop-place
invariant-loop-place l = record {
  behind : IsExactlySet (event_count l.self) (ByNumber l.self (IsFrom l.thread l.place)) l.behind;
  po : IsExactly (event_count l.self) (λ i j. In l.fn.po i j ⊎ ByNumbers l.self (Starting (IsFrom l.thread l.place) IsBefore) i j) l.po;
}

abbrev pub decreases-loop-place : goal.decreases-loop-place
decreases-loop-place l = l.place
