use Rattle.c11_threads.proofs.Reaching.{depending}
use Rattle.c11_threads.proofs.laws.depending.Goals as goal

pub returns : goal.returns
returns c = depending
