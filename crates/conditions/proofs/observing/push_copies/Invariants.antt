use Rattle.std.proofs.Common.{◌≡◌, ◌++◌, take}
use Rattle.conditions.proofs.observing.push_copies.Given as goal

abbrev pub invariant-loop-place : goal.invariant-loop-place
invariant-loop-place l = l.places.items ≡ l.initial.places.items ++ take l.place-index l.listed
