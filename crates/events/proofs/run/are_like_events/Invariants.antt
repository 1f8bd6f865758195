use Rattle.std.proofs.Common.{◌≡◌, map, take}
use Rattle.events.specs.Structures.{unvalued}
use Rattle.events.proofs.run.are_like_events.Given as goal

abbrev pub invariant-loop-place : goal.invariant-loop-place
invariant-loop-place l = map unvalued (take l.place l.first) ≡ map unvalued (take l.place l.second)
