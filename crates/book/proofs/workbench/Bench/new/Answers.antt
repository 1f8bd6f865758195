use Rattle.book.proofs.Frees.{passed_start}
use Rattle.book.proofs.Numbers.{none_numbered}
use Rattle.book.proofs.workbench.Bench.new.Goals as goal

pub invariant_of-result : goal.invariant_of-result
invariant_of-result c = record { passed = passed_start _; numbered = rw c.new-3.ensures.items (none_numbered 0) }
