use Rattle.std.proofs.Common.{◌<◌, ◌⊎◌}
use Rattle.relations.specs.Events.{Has}
use Rattle.relations.specs.Relation.{In, IsExactly}
use Rattle.events.proofs.view.groups.relate_group.Given as goal

abbrev pub invariant-loop-number : goal.invariant-loop-number
invariant-loop-number l = IsExactly l.fn.rel.count (λ i j. In l.fn.rel i j ⊎ ((i < l.number) × Has l.group i × Has l.group j)) l.rel
