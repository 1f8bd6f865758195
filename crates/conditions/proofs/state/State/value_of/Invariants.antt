use Rattle.std.proofs.Common.{◌≡◌, drop}
use Rattle.conditions.specs.States.{bindings, value_at}
use Rattle.conditions.proofs.state.State.value_of.Given as goal

-- what is left of the state gives the same value
abbrev pub invariant-loop-i : goal.invariant-loop-i
invariant-loop-i l = value_at (bindings (drop l.i l.self-inside.places.now) (drop l.i l.self-inside.values.now)) l.place ≡ value_at l.self l.place
