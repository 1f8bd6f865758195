use Rattle.candidates.proofs.Tallies.{counting}
use Rattle.candidates.proofs.laws.counting.Goals as goal

pub returns : goal.returns
returns c = counting
