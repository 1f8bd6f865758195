use Rattle.std.proofs.Common.{ap}
use Rattle.book.proofs.Newest.{given_new}
use Rattle.book.proofs.given.GivenClaims.new.Goals as goal

pub invariant_of-result : goal.invariant_of-result
invariant_of-result c = given_new _ c.new.ensures

pub returns : goal.returns
returns c = ap (λ older. (older.0, 0)) c.new.ensures
