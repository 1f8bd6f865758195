use Rattle.std.proofs.Common.{◌≡◌, map, take}
use Rattle.candidates.specs.Outlines.{written}
use Rattle.candidates.proofs.threads.are_calm.Given as goal

abbrev pub invariant-loop-place : goal.invariant-loop-place
invariant-loop-place l = map written (take l.place l.events) ≡ map written (take l.place l.others)
