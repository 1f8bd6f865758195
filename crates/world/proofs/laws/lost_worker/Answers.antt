use Rattle.world.proofs.Examples.{lost_worker}
use Rattle.world.proofs.laws.lost_worker.Goals as goal

pub returns : goal.returns
returns c = lost_worker
