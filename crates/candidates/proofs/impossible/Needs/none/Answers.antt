use Rattle.candidates.proofs.Needed.{no_needs}
use Rattle.candidates.proofs.impossible.Needs.none.Goals as goal

pub returns : goal.returns
returns c = no_needs
