use Rattle.slices.specs.Codes.{coded_work}
use Rattle.slices.specs.Same.{one_test}
use Rattle.slices.proofs.equality.WorkPartialEq.eq.Goals as goal

pub returns-clause-value : goal.returns-clause-value
returns-clause-value c = one_test coded_work c.args.self.now c.args.other.now c.is_same.result c.is_same.ensures
