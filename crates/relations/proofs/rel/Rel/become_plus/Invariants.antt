use Rattle.std.proofs.Common.{◌-◌}
use Rattle.relations.specs.Relation.{In, IsExactly}
use Rattle.relations.specs.Words.{ClosedFrom}
use Rattle.relations.proofs.rel.Rel.become_plus.Given as goal

abbrev pub invariant-loop-passed : goal.invariant-loop-passed
invariant-loop-passed l = IsExactly l.of.count (ClosedFrom (l.of.count - l.passed) (In l.of)) l.self
