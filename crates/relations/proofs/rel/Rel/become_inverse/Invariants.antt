use Rattle.std.proofs.Common.{◌<◌}
use Rattle.relations.specs.Relation.{In, IsExactly}
use Rattle.relations.proofs.rel.Rel.become_inverse.Given as goal

abbrev pub invariant-loop-to : goal.invariant-loop-to
invariant-loop-to l = IsExactly l.of.count (λ i j. (j < l.to) × In l.of j i) l.self
