use Rattle.book.proofs.Search.{match_copied}
use Rattle.book.proofs.workbench.Bench.job.Goals as goal

pub returns : goal.returns
returns c = match_copied _ _ c.find_job.ensures
