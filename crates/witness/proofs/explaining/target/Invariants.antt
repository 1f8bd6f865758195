use Rattle.std.proofs.Common.{ℕ, ◌<◌}
use Rattle.relations.specs.Relation.{In}
use Rattle.witness.proofs.explaining.target.Given as goal

abbrev pub invariant-loop-to : goal.invariant-loop-to
invariant-loop-to l = (j : ℕ) → j < l.to → ¬ In l.relation l.from j
