-- What a printed refusal has for candidates that are not numbered: its number and its name.
use Rattle.std.specs.Prelude.{ℕ, List, codes}
use Rattle.c11_threads.specs.Labels.{run_label}
use Rattle.c11_threads.specs.declared.fault.RunFault.TheVariants as runs
use Rattle.candidates.specs.declared.fault.SpaceFault.{SpaceFault}
use Rattle.candidates.specs.declared.fault.SpaceFault.TheVariants.{TooManyRuns, TooManyCandidates, NoMemory}

abbrev pub space_label : SpaceFault → List ℕ
space_label (TooManyRuns thread) = run_label (runs.TooManyRuns thread)
space_label TooManyCandidates = codes "41 TooManyCandidates"
space_label NoMemory = codes "NoMemory"
