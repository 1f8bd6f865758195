use Rattle.candidates.proofs.Pages.{some_orders}
use Rattle.candidates.proofs.assembly.orders_again.Goals as goal

pub nonzero_rem-wanted : goal.nonzero_rem-wanted
nonzero_rem-wanted c = some_orders c.args.locations c.args.page.now c.requires.page

pub nonzero_rem-other : goal.nonzero_rem-other
nonzero_rem-other c = some_orders c.args.locations c.args.page.now c.requires.page
