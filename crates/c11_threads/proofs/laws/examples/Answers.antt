use Rattle.c11_threads.proofs.Examples.{branching_runs, exchange_runs, addition_runs}
use Rattle.c11_threads.proofs.laws.examples.Goals as goal

pub returns : goal.returns
returns c = record {
  branch = branching_runs;
  exchange = exchange_runs;
  addition = addition_runs;
}
