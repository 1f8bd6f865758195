use Rattle.std.proofs.Common.{◌≡◌}
use Rattle.candidates.specs.Blocks.{placings}
use Rattle.slices.proofs.ways.placings.Given as goal

abbrev pub invariant-loop-placed : goal.invariant-loop-placed
invariant-loop-placed l = l.count ≡ placings l.writes l.placed
