use Rattle.std.proofs.Common.{◌≡◌, ◌≤◌, ◌++◌}
use Rattle.std.specs.List.{All, filter}
use Rattle.candidates.specs.Blocks.{IsDepth, ways_of_orders}
use Rattle.candidates.specs.Depths.{by_locations, is_open, known_of}
use Rattle.candidates.specs.Executions.{upto}
use Rattle.candidates.proofs.depths.push_orders.Given as goal

abbrev pub decreases-loop-location : goal.decreases-loop-location
decreases-loop-location l = l.location

abbrev pub invariant-loop-location : goal.invariant-loop-location
invariant-loop-location l = record {
  within : l.location ≤ l.locations;
  orders : l.orders ≡ ways_of_orders l.page.runs.items l.location 0 (upto l.locations);
  depths : All (IsDepth l.locations l.page.runs.items) l.depths.items;
  known : known_of l.depths.items ++ filter (is_open l.locations l.page.runs.items) (by_locations l.page.runs.items l.location) ≡ known_of l.fn.depths.items ++ filter (is_open l.locations l.page.runs.items) (by_locations l.page.runs.items l.locations);
}
