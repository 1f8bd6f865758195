use Rattle.std.proofs.Common.{ℕ, ◌<◌}
use Rattle.relations.specs.Relation.{In}
use Rattle.witness.proofs.explaining.pair.Given as goal

abbrev pub invariant-loop-from : goal.invariant-loop-from
invariant-loop-from l = (i j : ℕ) → i < l.from → ¬ In l.relation i j
