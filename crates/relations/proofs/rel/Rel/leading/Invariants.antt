use Rattle.std.specs.Prelude.{◌≤◌, ℕ}
use Rattle.relations.specs.Relation.{In}
use Rattle.relations.proofs.rel.Rel.leading.Given as goal

abbrev pub invariant-loop-i : goal.invariant-loop-i
invariant-loop-i l = (m j : ℕ) → In l.self m j → l.i ≤ m
