use Rattle.std.proofs.Common.{◌≡◌, true, false, rules}
use Rattle.workers.proofs.Settling.{returned_turn, closed_turn}
use Rattle.workers.proofs.working.settle.Goals as goal

pub returns-in-Ok-true : goal.returns-in-Ok-true
returns-in-Ok-true g c =
    let told = c.evaluated-number.ensures in
    let test : c.in-Ok-true.field-0 ≡ true = search rules in
    returned_turn _ told.0 _ _ c.in-Ok.found c.in-Ok-true.field-0 told.1 (rw c.in-Ok.is at told.3) test c.in-Ok-true.ensures.ok

pub returns-in-Ok-false : goal.returns-in-Ok-false
returns-in-Ok-false g c =
    let told = c.evaluated-number.ensures in
    let test : c.in-Ok-false.field-0 ≡ false = search rules in
    rw c.counts.ensures (closed_turn _ told.0 _ _ c.in-Ok.found c.in-Ok-false.field-0 told.1 (rw c.in-Ok.is at told.3) test c.in-Ok-false.ensures.ok)
