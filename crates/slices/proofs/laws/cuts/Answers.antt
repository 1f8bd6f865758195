use Rattle.slices.proofs.Cuts.{cuts}
use Rattle.slices.proofs.laws.cuts.Goals as goal

pub returns : goal.returns
returns c = cuts
