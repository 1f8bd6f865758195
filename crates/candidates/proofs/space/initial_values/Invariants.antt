use Rattle.std.proofs.Common.{◌≡◌, ◌++◌, drop, map}
use Rattle.conditions.specs.States.{value_at}
use Rattle.conditions.specs.declared.place.Place.TheVariants.{Loc}
use Rattle.candidates.specs.Executions.{initial_values}
use Rattle.candidates.proofs.space.initial_values.Given as goal

abbrev pub invariant-loop-location : goal.invariant-loop-location
invariant-loop-location l = l.values.items ++ map (λ x. value_at l.test.initial (Loc x)) (drop l.location-index l.location-items) ≡ initial_values l.test
