use Rattle.candidates.proofs.Orders.{IsTurned}
use Rattle.candidates.proofs.ordering.turn_each.Given as goal

abbrev pub invariant-loop-location : goal.invariant-loop-location
invariant-loop-location l = IsTurned l.page.runs.items l.locations l.to l.location l.co l.old l.new
