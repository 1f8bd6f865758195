use Rattle.slices.specs.Codes.{coded_finding}
use Rattle.slices.specs.Same.{one_test}
use Rattle.slices.proofs.equality.FindingPartialEq.eq.Goals as goal

pub returns-clause-value : goal.returns-clause-value
returns-clause-value c = one_test coded_finding c.args.self.now c.args.other.now c.is_same.result c.is_same.ensures
