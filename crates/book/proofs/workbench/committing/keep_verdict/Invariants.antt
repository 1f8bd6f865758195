use Rattle.std.proofs.Common.{◌≡◌, drop}
use Rattle.book.specs.Workbench.{job_of}
use Rattle.book.proofs.workbench.committing.keep_verdict.Given as goal

abbrev pub invariant-loop-i : goal.invariant-loop-i
invariant-loop-i l = (l.jobs.items ≡ l.initial.jobs.items) × (job_of l.jobs.items l.number ≡ job_of (drop l.i l.jobs.items) l.number)
