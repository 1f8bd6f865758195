use Rattle.world.proofs.Examples.{whole_way}
use Rattle.world.proofs.laws.whole_way.Goals as goal

pub returns : goal.returns
returns c = whole_way
