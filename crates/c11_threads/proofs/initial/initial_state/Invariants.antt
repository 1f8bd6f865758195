use Rattle.std.proofs.Common.{◌≡◌, map, reverse}
use Rattle.std.specs.Option.{unwrap_or}
use Rattle.conditions.specs.declared.place.Place.{Place}
use Rattle.conditions.specs.Equality.{same_place}
use Rattle.conditions.specs.States.{value_at}
use Rattle.indexmap.specs.IndexMap.{get}
use Rattle.c11_threads.proofs.initial.initial_state.Given as goal

-- the values that the bindings so far give, of two for one place the earlier
abbrev pub invariant-loop-binding : goal.invariant-loop-binding
invariant-loop-binding l = (p : Place) → unwrap_or (get same_place l.state p) 0 ≡ value_at (reverse (map (λ b. b.now) l.yielded)) p
