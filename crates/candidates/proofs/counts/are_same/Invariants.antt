use Rattle.std.proofs.Common.{◌≡◌, take}
use Rattle.candidates.proofs.counts.are_same.Given as goal

abbrev pub invariant-loop-location : goal.invariant-loop-location
invariant-loop-location l = take l.location l.counts ≡ take l.location l.others
