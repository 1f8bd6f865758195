use Rattle.std.proofs.Common.{◌≡◌, ◌<◌, ℕ, List, length}
use Rattle.relations.specs.Relation.{In}
use Rattle.witness.specs.Cycles.{IsCycle, IsPower, ArePowers}
use Rattle.witness.proofs.cycles.shortest_cycle.Given as goal

abbrev pub invariant-loop-step : goal.invariant-loop-step
invariant-loop-step l = record {
  powers : ArePowers l.relation 0 l.powers.items;
  power : IsPower l.relation l._step l.power;
  long : length l.powers.items ≡ l._step;
  longer : (ys : List ℕ) → IsCycle (In l.relation) ys → l._step < length ys;
}
