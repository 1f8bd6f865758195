use Rattle.candidates.proofs.Needed.{both_needs}
use Rattle.candidates.proofs.impossible.Needs.with.Goals as goal

pub returns : goal.returns
returns c = λ init stores events others h k. both_needs init stores events others c.args.self c.args.more h k
