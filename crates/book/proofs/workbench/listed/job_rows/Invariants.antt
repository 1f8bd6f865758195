use Rattle.std.proofs.Common.{◌≡◌, map, take}
use Rattle.book.specs.Listings.{row_of}
use Rattle.book.proofs.workbench.listed.job_rows.Given as goal

abbrev pub invariant-loop-job : goal.invariant-loop-job
invariant-loop-job l = l.rows.items ≡ map row_of (take l.job-index l.jobs.items)
