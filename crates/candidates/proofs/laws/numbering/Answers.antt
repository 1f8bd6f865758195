use Rattle.candidates.proofs.Law.{numbering}
use Rattle.candidates.proofs.laws.numbering.Goals as goal

pub returns : goal.returns
returns c = numbering
