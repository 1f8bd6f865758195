use Rattle.journal.specs.LineCodes.{coded_line}
use Rattle.slices.specs.Same.{one_test}
use Rattle.journal.proofs.equality.EntryPartialEq.eq.Goals as goal

pub returns-clause-value : goal.returns-clause-value
returns-clause-value c = one_test coded_line c.args.self.now c.args.other.now c.has_parts_of.result c.has_parts_of.ensures
