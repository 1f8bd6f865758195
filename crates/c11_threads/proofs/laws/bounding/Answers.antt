use Rattle.c11_threads.proofs.Few.{bounding}
use Rattle.c11_threads.proofs.laws.bounding.Goals as goal

pub returns : goal.returns
returns c = bounding
