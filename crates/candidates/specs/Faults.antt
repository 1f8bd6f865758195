-- When a test's candidates aren't numbered.
use Rattle.std.specs.Prelude.{ℕ, ◌<◌, ◌≤◌, ◌^◌, length}
use Rattle.litmus_tree.specs.Tree.{Litmus}
use Rattle.c11_threads.specs.declared.fault.RunFault.{RunFault}
use Rattle.c11_threads.specs.declared.fault.RunFault.TheVariants as of_runs
use Rattle.candidates.specs.declared.fault.SpaceFault.{SpaceFault}
use Rattle.candidates.specs.declared.fault.SpaceFault.TheVariants as of_space
use Rattle.c11_threads.specs.Faults.{HasRuns, HasTooManyRuns}
use Rattle.candidates.specs.Executions.{IsSize}

-- Thread k is the lowest with too many runs.
abbrev pub IsFirstWithTooManyRuns : Litmus → ℕ → Type 0
IsFirstWithTooManyRuns t k = (k < length t.threads) × HasTooManyRuns t k × ((j : ℕ) → j < k → (n : ℕ) × HasRuns t j n × (n ≤ 4096))

-- No thread has too many runs.
abbrev pub HaveFewRuns : Litmus → Type 0
HaveFewRuns t = (k : ℕ) → k < length t.threads → (n : ℕ) × HasRuns t k n × (n ≤ 4096)

-- What a fault of a test's space means.
abbrev pub IsSpaceFault : Litmus → SpaceFault → Type 0
IsSpaceFault t (of_space.TooManyRuns k) = IsFirstWithTooManyRuns t k
IsSpaceFault t of_space.TooManyCandidates = HaveFewRuns t × ((n : ℕ) × IsSize t n × (2 ^ 32 < n))
IsSpaceFault t of_space.NoMemory = Unit {0}

abbrev pub space_fault_of : RunFault → SpaceFault
space_fault_of (of_runs.TooManyRuns k) = of_space.TooManyRuns k
space_fault_of of_runs.NoMemory = of_space.NoMemory
