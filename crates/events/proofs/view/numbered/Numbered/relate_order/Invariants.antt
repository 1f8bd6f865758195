use Rattle.std.proofs.Common.{◌≤◌, ◌⊎◌, length}
use Rattle.relations.specs.Events.{IsExactlySet}
use Rattle.relations.specs.Relation.{In, IsExactly}
use Rattle.events.specs.Named.{event_count}
use Rattle.events.specs.Rows.{ByNumbers, IsBehind, StandsBeforeFrom}
use Rattle.events.proofs.view.numbered.Numbered.relate_order.Given as goal

abbrev pub invariant-loop-place : goal.invariant-loop-place
invariant-loop-place l =
    (l.place ≤ length l.order) × IsExactlySet (event_count l.self) (IsBehind l.self l.order l.place) l.behind
    × IsExactly (event_count l.self) (λ i j. In l.fn.rel i j ⊎ ByNumbers l.self (StandsBeforeFrom l.order l.place) i j) l.rel

abbrev pub decreases-loop-place : goal.decreases-loop-place
decreases-loop-place l = l.place
