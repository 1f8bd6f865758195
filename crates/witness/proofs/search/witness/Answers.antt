use Rattle.candidates.specs.Candidates.{choices_of}
use Rattle.witness.proofs.search.witness.Goals as goal

pub find-requires-clause-known : goal.find-requires-clause-known
find-requires-clause-known c = c.in_ok-judge.ensures.known (choices_of c.test.result.now)
