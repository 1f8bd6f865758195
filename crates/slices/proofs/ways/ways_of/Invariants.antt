use Rattle.std.proofs.Common.{◌≡◌, ◌++◌, drop}
use Rattle.events.specs.declared.event.EventId.TheVariants.{Initial}
use Rattle.slices.specs.Ways.{is_seen, shown_ways}
use Rattle.slices.proofs.ways.ways_of.Given as goal

abbrev pub invariant-loop-location : goal.invariant-loop-location
invariant-loop-location l = l.ways.items ++ shown_ways Initial (is_seen l.slots) l.range.unplaced.locations l.range.unplaced.writes l.location (drop l.location l.orders) ≡ shown_ways Initial (is_seen l.slots) l.range.unplaced.locations l.range.unplaced.writes 0 l.orders
