use Rattle.std.proofs.Common.{ℕ, ◌<◌}
use Rattle.relations.specs.Relation.{In}
use Rattle.witness.proofs.cycles.between.Given as goal

abbrev pub invariant-loop-middle : goal.invariant-loop-middle
invariant-loop-middle l = (m : ℕ) → m < l.middle → In l.first l.from m → ¬ In l.second m l.to
