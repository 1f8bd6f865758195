-- Runs that are computed from the definition.
use Rattle.std.proofs.Common.{refl}
use Rattle.relations.specs.Tables.{place, line}
use Rattle.events.specs.Executions.{no_places}
use Rattle.c11_threads.specs.Contents.{just, joined}
use Rattle.c11_threads.specs.RunExamples.{BranchingRuns, ExchangeRuns, AdditionRuns}

pub branching_runs : BranchingRuns
unfolding just joined no_places line place
branching_runs = refl

pub exchange_runs : ExchangeRuns
unfolding just joined no_places line place
exchange_runs = refl

pub addition_runs : AdditionRuns
unfolding just joined no_places line place
addition_runs = refl
