use Rattle.candidates.specs.declared.fault.TheConstants.{MOST_CANDIDATES}
use Rattle.std.proofs.Common.{length}
use Rattle.listings.specs.Lists.{factorial}
use Rattle.candidates.proofs.Caps.{capped_unwrapped, factorial_positive}
use Rattle.candidates.proofs.page.orders_of.Goals as goal

pub returns : goal.returns
returns c = capped_unwrapped MOST_CANDIDATES (factorial (length c.args.writes.now)) c.unwrap.result c.capped_factorial.result c.capped_factorial.ensures c.unwrap.ensures (factorial_positive (length c.args.writes.now))
