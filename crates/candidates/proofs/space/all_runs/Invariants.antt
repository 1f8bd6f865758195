use Rattle.std.proofs.Common.{◌≡◌, ◌++◌, ◌≤◌, ℕ, ◌<◌, length, map, drop}
use Rattle.candidates.specs.Executions.{upto}
use Rattle.c11_threads.specs.Unrolled.{runs_of}
use Rattle.candidates.proofs.space.all_runs.Given as goal

abbrev pub invariant-loop-thread : goal.invariant-loop-thread
invariant-loop-thread l = record {
  is : l.lists.items ++ map (runs_of l.test) (drop l.thread (upto (length l.test.threads))) ≡ map (runs_of l.test) (upto (length l.test.threads));
  few : (j : ℕ) → j < l.thread → length (runs_of l.test j) ≤ 4096;
  within : l.thread ≤ length l.test.threads;
}
