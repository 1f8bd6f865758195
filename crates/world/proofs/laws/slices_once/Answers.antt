use Rattle.world.proofs.Slots.{slices_once}
use Rattle.world.proofs.laws.slices_once.Goals as goal

pub returns : goal.returns
returns c = slices_once
