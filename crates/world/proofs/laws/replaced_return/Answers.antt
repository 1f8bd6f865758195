use Rattle.world.proofs.Examples.{replaced_return}
use Rattle.world.proofs.laws.replaced_return.Goals as goal

pub returns : goal.returns
returns c = replaced_return
