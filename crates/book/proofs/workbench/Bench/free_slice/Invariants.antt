use Rattle.book.specs.Frees.{IsNoneBefore}
use Rattle.book.proofs.workbench.Bench.free_slice.Given as goal

abbrev pub invariant-loop-place : goal.invariant-loop-place
invariant-loop-place l = IsNoneBefore l.self l.job l.place
