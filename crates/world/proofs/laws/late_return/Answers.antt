use Rattle.world.proofs.Examples.{late_return}
use Rattle.world.proofs.laws.late_return.Goals as goal

pub returns : goal.returns
returns c = late_return
