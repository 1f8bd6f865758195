use Rattle.c11_threads.proofs.RunLists.{lists_runs_of}
use Rattle.c11_threads.proofs.laws.listing.Goals as goal

pub returns : goal.returns
returns c = lists_runs_of
