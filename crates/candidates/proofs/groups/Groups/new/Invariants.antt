use Rattle.std.proofs.Common.{◌≡◌, ◌++◌, drop, map}
use Rattle.candidates.specs.Groups.{tally_of, spread, ArePlaces}
use Rattle.candidates.proofs.groups.Groups.new.Given as goal

abbrev pub invariant-loop-run : goal.invariant-loop-run
invariant-loop-run l = record {
  places : ArePlaces l.tallies.items l.places.items;
  is : spread l.tallies.items l.places.items ++ map (λ run. tally_of l.locations run.events) (drop l.run-index l.runs) ≡ map (λ run. tally_of l.locations run.events) l.runs;
}
