use Rattle.slices.specs.Codes.{coded_verdict}
use Rattle.slices.specs.Same.{one_test}
use Rattle.slices.proofs.equality.VerdictRefPartialEq.eq.Goals as goal

pub returns-clause-value : goal.returns-clause-value
returns-clause-value c = one_test coded_verdict c.args.self.now c.args.other.now c.is_same.result c.is_same.ensures
