use Rattle.std.proofs.Common.{◌≡◌}
use Rattle.suite.proofs.judging.judge_work.Given as goal

abbrev pub invariant-loop-slice : goal.invariant-loop-slice
invariant-loop-slice g l = l.course ≡ record { work = l.fn.work; total = l.total; done = l._slice }
