use Rattle.std.proofs.Common.{◌≡◌, ◌++◌, drop}
use Rattle.candidates.specs.Groups.{sum_tally}
use Rattle.candidates.proofs.counts.add.Given as goal

abbrev pub invariant-loop-location : goal.invariant-loop-location
invariant-loop-location l = l.sums.items ++ sum_tally (drop l.location l.counts) (drop l.location l.more) ≡ sum_tally l.counts l.more
