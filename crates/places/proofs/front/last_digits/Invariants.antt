use Rattle.std.proofs.Common.{◌≡◌, ℕ, ◌<◌, ◌≤◌, true, get_or, length}
use Rattle.wb_text.specs.Bytes.{is_digit}
use Rattle.places.proofs.front.last_digits.Given as goal

-- digits from here on
abbrev pub invariant-loop-start : goal.invariant-loop-start
invariant-loop-start l = (l.start ≤ length l.bytes) × ((k : ℕ) → l.start ≤ k → k < length l.bytes → is_digit (get_or l.bytes k 0) ≡ true)

abbrev pub decreases-loop-start : goal.decreases-loop-start
decreases-loop-start l = l.start
