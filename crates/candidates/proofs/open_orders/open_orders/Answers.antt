use Rattle.candidates.proofs.Like.{whole_open}
use Rattle.candidates.proofs.open_orders.open_orders.Goals as goal

pub nonzero_rem-place : goal.nonzero_rem-place
nonzero_rem-place c = (whole_open c.args.locations c.args.page.now.orders c.args.page.now.runs.items c.requires.page.orders).some
