use Rattle.std.proofs.Common.{◌≡◌, map, take}
use Rattle.candidates.specs.Outlines.{outline}
use Rattle.candidates.proofs.threads.are_alike.Given as goal

abbrev pub invariant-loop-place : goal.invariant-loop-place
invariant-loop-place l = map outline (take l.place l.events) ≡ map outline (take l.place l.others)
