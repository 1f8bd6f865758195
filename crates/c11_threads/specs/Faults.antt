-- When a thread's runs aren't listed.
use Rattle.std.specs.Prelude.{◌≡◌, ℕ, ◌<◌, List, length}
use Rattle.events.specs.Executions.{ThreadRun}
use Rattle.listings.specs.Lists.{Lists}
use Rattle.litmus_tree.specs.Tree.{Litmus}
use Rattle.c11_threads.specs.declared.fault.RunFault.{RunFault}
use Rattle.c11_threads.specs.declared.fault.RunFault.TheVariants as of_runs
use Rattle.c11_threads.specs.Runs.{IsRun}

-- the number of runs of thread k
abbrev pub HasRuns : Litmus → ℕ → ℕ → Type 0
HasRuns t k n = (runs : List ThreadRun) × Lists (IsRun t k) runs × (length runs ≡ n)

abbrev pub HasTooManyRuns : Litmus → ℕ → Type 0
HasTooManyRuns t k = (n : ℕ) × HasRuns t k n × (4096 < n)

-- What a fault of the runs of thread k means.
abbrev pub IsRunFault : Litmus → ℕ → RunFault → Type 0
IsRunFault t k (of_runs.TooManyRuns j) = (j ≡ k) × HasTooManyRuns t k
IsRunFault t k of_runs.NoMemory = Unit {0}
