use Rattle.std.proofs.Common.{ap}
use Rattle.std.specs.List.{list_any}
use Rattle.book.proofs.Held.{held_new}
use Rattle.book.proofs.live.LiveClaims.new.Goals as goal

pub invariant_of-result : goal.invariant_of-result
invariant_of-result c = held_new _ _ c.new.ensures.empty (λ job slice. ap (list_any _) c.new-2.ensures.empty)
