use Rattle.std.proofs.Common.{◌≡◌, ◌≤◌, List, length, subst}
use Rattle.events.specs.declared.event.EventId.{EventId}
use Rattle.listings.specs.Lists.{factorial}
use Rattle.candidates.proofs.Caps.{factorial_positive}
use Rattle.candidates.proofs.page.Writes.orders.Goals as goal

pub returns : goal.returns
returns c =
    let n = c.self.inside.orders in
    let P : List EventId → Type 0 = λ ws. (n ≡ factorial (length ws)) × (1 ≤ n) in
    subst P c.self.view_is (c.self.invariant, rw c.self.invariant (factorial_positive (length c.self.inside.writes.items)))
