use Rattle.std.proofs.Common.{[], ◌-◌, ◌≤◌}
use Rattle.listings.specs.Lists.{product_by}
use Rattle.slices.specs.Alike.{of_states, row_by, weight_at}
use Rattle.slices.specs.Gathered.{IsKept}
use Rattle.slices.specs.Sums.{IsSum}
use Rattle.slices.specs.Ways.{count_of_ways}
use Rattle.slices.proofs.gathering.Gathering.add_ways.Given as goal

abbrev pub invariant-loop-times : goal.invariant-loop-times
invariant-loop-times l = record {
  kept : IsKept l.self;
  added : IsSum l.fn.self.finding (of_states l.fn.self.finding (weight_at l.ways) (row_by l.graph l.slots l.ways) l.number []) l.self.finding;
  within : l.number ≤ product_by count_of_ways l.ways;
}

abbrev pub decreases-loop-times : goal.decreases-loop-times
decreases-loop-times l = product_by count_of_ways l.ways - l.number
