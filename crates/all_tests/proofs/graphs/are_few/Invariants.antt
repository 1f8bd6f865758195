use Rattle.std.proofs.Common.{◌≡◌, ◌+◌, length, drop}
use Rattle.std.specs.Prelude.{sum_by}
use Rattle.all_tests.proofs.graphs.are_few.Given as goal

abbrev pub invariant-loop-run : goal.invariant-loop-run
invariant-loop-run l = l.total + sum_by (λ run. length run.events) (drop l.run-index l.runs) ≡ length l.init + sum_by (λ run. length run.events) l.runs
