use Rattle.std.proofs.Common.{sym}
use Rattle.book.proofs.Claims.{any_in}
use Rattle.book.proofs.workbench.Bench.any_free.Goals as goal

pub returns-in-Some : goal.returns-in-Some
returns-in-Some c = sym (any_in c.args.self.now c.in-Some.field-0.job.now c.in-Some.field-0.slice c.in-Some.ensures.free)
