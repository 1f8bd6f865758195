use Rattle.book.proofs.Frees.{passed_start}
use Rattle.book.proofs.Numbers.{numbered_without}
use Rattle.book.proofs.workbench.Bench.forget.Goals as goal

pub invariant_of-self : goal.invariant_of-self
invariant_of-self c = rw c.forget_job.ensures (record { passed = passed_start _; numbered = numbered_without _ _ _ c.self.invariant.numbered })
