use Rattle.candidates.proofs.reading.read_into.Goals as goal

pub set_sources-requires-clause-page : goal.set_sources-requires-clause-page
set_sources-requires-clause-page c = c.requires.page

pub set_sources-requires-clause-number : goal.set_sources-requires-clause-number
set_sources-requires-clause-number c = c.requires.number
