use Rattle.candidates.proofs.Within.{opens_some}
use Rattle.candidates.proofs.open_orders.orders_alone.Goals as goal

pub returns-in-Orders-clause-known : goal.returns-in-Orders-clause-known
returns-in-Orders-clause-known c = opens_some c.args.locations c.args.page.now.runs.items c.args.depth.now c.in-Orders.unplaced c.in-Orders.is
