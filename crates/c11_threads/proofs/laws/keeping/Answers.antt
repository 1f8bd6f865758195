use Rattle.c11_threads.proofs.Kept.{keeping}
use Rattle.c11_threads.proofs.laws.keeping.Goals as goal

pub returns : goal.returns
returns c = keeping
