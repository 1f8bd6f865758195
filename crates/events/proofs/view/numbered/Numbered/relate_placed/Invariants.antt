use Rattle.std.proofs.Common.{◌≤◌, ◌⊎◌, length, drop}
use Rattle.relations.specs.Events.{IsExactlySet}
use Rattle.relations.specs.Relation.{In, IsExactly}
use Rattle.events.specs.Cuts.{placed}
use Rattle.events.specs.Named.{event_count, StandsBefore}
use Rattle.events.specs.Rows.{ByNumbers, IsNumberOfOne}
use Rattle.events.proofs.view.numbered.Numbered.relate_placed.Given as goal

abbrev pub invariant-loop-place : goal.invariant-loop-place
invariant-loop-place l = record {
  inside : l.place ≤ length l.order;
  behind : IsExactlySet (event_count l.self) (IsNumberOfOne l.self (placed l.unplaced (drop l.place l.order))) l.behind;
  rel : IsExactly (event_count l.self) (λ i j. In l.fn.rel i j ⊎ ByNumbers l.self (StandsBefore (placed l.unplaced (drop l.place l.order))) i j) l.rel;
}

abbrev pub decreases-loop-place : goal.decreases-loop-place
decreases-loop-place l = l.place
