use Rattle.std.proofs.Common.{◌≡◌, ◌*◌, drop}
use Rattle.listings.specs.Lists.{product_by}
use Rattle.candidates.specs.Readings.{orders_among}
use Rattle.candidates.proofs.assembly.count_orders.Given as goal

abbrev pub invariant-loop-later : goal.invariant-loop-later
invariant-loop-later l = l.product * product_by orders_among (drop l.later-index l.writes) ≡ product_by orders_among l.writes
