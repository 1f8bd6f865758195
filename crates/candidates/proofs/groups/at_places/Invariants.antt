use Rattle.std.proofs.Common.{◌≡◌, ◌++◌, drop, map, get_or}
use Rattle.candidates.proofs.groups.at_places.Given as goal

abbrev pub invariant-loop-place : goal.invariant-loop-place
invariant-loop-place l = l.all.items ++ map (λ p. get_or l.sizes p 0) (drop l.place-index l.places) ≡ map (λ p. get_or l.sizes p 0) l.places
