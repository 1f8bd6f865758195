use Rattle.std.proofs.Common.{◌≡◌, ◌++◌, ◌≤◌, map, drop, take, length}
use Rattle.candidates.specs.Executions.{later_writes, upto}
use Rattle.candidates.proofs.assembly.all_writes.Given as goal

abbrev pub invariant-loop-location : goal.invariant-loop-location
invariant-loop-location l = record {
  is : take l.location l.all.items ++ map (later_writes l.runs) (drop l.location (upto l.locations)) ≡ map (later_writes l.runs) (upto l.locations);
  within : l.location ≤ l.locations;
  room : l.location ≤ length l.all.items;
}
