use Rattle.std.proofs.Common.{◌≡◌, ◌++◌, take, drop}
use Rattle.book.specs.Workbench.{job_of, marked_in}
use Rattle.book.proofs.workbench.committing.take_in.Given as goal

abbrev pub invariant-loop-i : goal.invariant-loop-i
invariant-loop-i l = (l.jobs.items ≡ l.initial.jobs.items) × (marked_in l.jobs.items l.number l.fn.part.piece.slice ≡ take l.i l.jobs.items ++ marked_in (drop l.i l.jobs.items) l.number l.fn.part.piece.slice) × (job_of l.jobs.items l.number ≡ job_of (drop l.i l.jobs.items) l.number)
