use Rattle.std.proofs.Common.{◌≡◌, ◌≤◌, ◌++◌, ◌-◌, length}
use Rattle.std.specs.List.{All, filter}
use Rattle.candidates.specs.Blocks.{IsDepth, ways_of_orders}
use Rattle.candidates.specs.Depths.{by_places, is_open, known_of}
use Rattle.candidates.specs.Executions.{later_writes, upto}
use Rattle.candidates.proofs.depths.push_order.Given as goal

abbrev pub decreases-loop-unplaced : goal.decreases-loop-unplaced
decreases-loop-unplaced l = l.unplaced

abbrev pub invariant-loop-unplaced : goal.invariant-loop-unplaced
invariant-loop-unplaced l = record {
  within : l.unplaced ≤ l.writes;
  size : l.size ≡ ways_of_orders l.page.runs.items l.location l.unplaced (upto l.locations);
  depths : All (IsDepth l.locations l.page.runs.items) l.depths.items;
  known : known_of l.depths.items ++ filter (is_open l.locations l.page.runs.items) (by_places l.location l.unplaced) ≡ known_of l.fn.depths.items ++ filter (is_open l.locations l.page.runs.items) (by_places l.location (length (later_writes l.page.runs.items l.location) - 1));
}
