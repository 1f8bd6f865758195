use Rattle.book.specs.Frees.{IsPassed}
use Rattle.book.proofs.workbench.Bench.free_place.Given as goal

abbrev pub invariant-loop-place : goal.invariant-loop-place
invariant-loop-place l = IsPassed l.self l.place l.from
