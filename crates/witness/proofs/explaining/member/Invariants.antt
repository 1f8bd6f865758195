use Rattle.std.proofs.Common.{ℕ, ◌<◌}
use Rattle.relations.specs.Events.{Has}
use Rattle.witness.proofs.explaining.member.Given as goal

abbrev pub invariant-loop-event : goal.invariant-loop-event
invariant-loop-event l = (i : ℕ) → i < l.event → ¬ Has l.set i
