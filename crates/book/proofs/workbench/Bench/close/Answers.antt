use Rattle.std.proofs.Common.{true}
use Rattle.book.proofs.Frees.{closed_passed}
use Rattle.book.proofs.workbench.Bench.close.Goals as goal

pub invariant_of-self : goal.invariant_of-self
invariant_of-self c = record { passed = closed_passed _ _ _ true c.self.invariant.passed; numbered = c.self.invariant.numbered }
