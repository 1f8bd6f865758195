use Rattle.std.proofs.Common.{◌≡◌}
use Rattle.candidates.specs.Groups.{tally_of}
use Rattle.candidates.proofs.counts.AccessTally.new.Given as goal

abbrev pub invariant-loop-location : goal.invariant-loop-location
invariant-loop-location l = l.counts.items ≡ tally_of l.location l.events
