use Rattle.candidates.proofs.Listed.{by_writes}
use Rattle.candidates.proofs.Pages.{some_orders}
use Rattle.candidates.proofs.assembly.sources_again.Goals as goal

pub nonzero_div-reading : goal.nonzero_div-reading
nonzero_div-reading c = some_orders c.requires.page.0 c.args.page.now c.requires.page.1

pub turn_sources-requires-clause-page : goal.turn_sources-requires-clause-page
turn_sources-requires-clause-page c = by_writes c.requires.page.0 c.args.page.now c.requires.page.1

pub read_into-requires-clause-page : goal.read_into-requires-clause-page
read_into-requires-clause-page c = by_writes c.requires.page.0 c.args.page.now c.requires.page.1
