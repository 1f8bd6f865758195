use Rattle.std.proofs.Common.{◌≡◌, ℕ, ◌<◌, false, get_or}
use Rattle.std.specs.Prelude.{nat_lt}
use Rattle.places.proofs.front.first_above.Given as goal

-- none above 127 so far
abbrev pub invariant-loop-at : goal.invariant-loop-at
invariant-loop-at l = (k : ℕ) → k < l.at → nat_lt 127 (get_or l.bytes k 0) ≡ false
