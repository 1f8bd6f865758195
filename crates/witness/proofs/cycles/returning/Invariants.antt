use Rattle.std.proofs.Common.{ℕ, ◌<◌}
use Rattle.relations.specs.Relation.{In}
use Rattle.witness.proofs.cycles.returning.Given as goal

abbrev pub invariant-loop-event : goal.invariant-loop-event
invariant-loop-event l = (a : ℕ) → a < l.event → In l.relation a a → ⊥
