use Rattle.candidates.proofs.Like.{whole_open}
use Rattle.candidates.proofs.open_orders.all_orders.Goals as goal

pub returns-clause-open : goal.returns-clause-open
returns-clause-open c = whole_open c.args.locations c.args.page.now.orders c.args.page.now.runs.items c.requires.orders
