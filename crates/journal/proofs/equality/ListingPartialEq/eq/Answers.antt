use Rattle.journal.specs.ListCodes.{coded_catalogue}
use Rattle.slices.specs.Same.{one_test}
use Rattle.journal.proofs.equality.ListingPartialEq.eq.Goals as goal

pub returns-clause-value : goal.returns-clause-value
returns-clause-value c = one_test coded_catalogue c.args.self.now c.args.other.now c.has_parts_of.result c.has_parts_of.ensures
