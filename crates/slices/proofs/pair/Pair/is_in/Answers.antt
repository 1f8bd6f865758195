use Rattle.std.proofs.Common.{sym, subst}
use Rattle.slices.specs.Reasons.{StandsSo}
use Rattle.slices.proofs.Pairing.{order_now}
use Rattle.slices.proofs.pair.Pair.is_in.Goals as goal

pub returns-in-Some : goal.returns-in-Some
returns-in-Some c t = (
  c.in-Some.order.now,
  order_now c.args.graph.now.co c.co.result.now c.args.self.location c.in-Some.order.now c.co.ensures (sym c.in-Some.ensures.lookup.0) c.in-Some.ensures.lookup.1,
  subst (StandsSo c.args.self) c.writes.ensures (c.stands_in.ensures t),
)
