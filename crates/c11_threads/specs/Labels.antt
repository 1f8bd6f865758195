-- What a printed refusal has for runs that are not listed: its number and its name.
use Rattle.std.specs.Prelude.{ℕ, List, codes}
use Rattle.c11_threads.specs.declared.fault.RunFault.{RunFault}
use Rattle.c11_threads.specs.declared.fault.RunFault.TheVariants.{TooManyRuns, NoMemory}

abbrev pub run_label : RunFault → List ℕ
run_label (TooManyRuns thread) = codes "31 TooManyRuns"
run_label NoMemory = codes "NoMemory"
