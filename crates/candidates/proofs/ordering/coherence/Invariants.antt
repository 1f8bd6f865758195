use Rattle.std.proofs.Common.{◌≡◌, ◌++◌, ◌≤◌, drop, take, length}
use Rattle.listings.specs.Numbered.{digits}
use Rattle.candidates.specs.Executions.{upto}
use Rattle.candidates.specs.Candidates.{count_orders, order_at}
use Rattle.candidates.proofs.ordering.coherence.Given as goal

abbrev pub invariant-loop-location : goal.invariant-loop-location
invariant-loop-location l = record {
  is : take l.location l.co.items ++ digits (count_orders l.page.runs.items) (order_at l.page.runs.items) (drop l.location (upto l.locations)) l.rest ≡ digits (count_orders l.page.runs.items) (order_at l.page.runs.items) (upto l.locations) l.number;
  within : l.location ≤ l.locations;
  room : l.location ≤ length l.co.items;
}
