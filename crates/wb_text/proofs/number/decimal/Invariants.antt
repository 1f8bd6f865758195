use Rattle.std.proofs.Common.{◌≡◌, ℕ, ◌<◌, ◌≤◌, take, true, get_or}
use Rattle.wb_text.specs.Bytes.{is_digit}
use Rattle.wb_text.specs.Numbers.{decimal_value}
use Rattle.wb_text.proofs.number.decimal.Given as goal

-- the digits so far, and their value
abbrev pub invariant-loop-digit : goal.invariant-loop-digit
invariant-loop-digit l =
    (l.value ≤ 2147483647) × (l.value ≡ decimal_value (take l.digit-index l.digits)) × ((k : ℕ) → k < l.digit-index → is_digit (get_or l.digits k 0) ≡ true)
