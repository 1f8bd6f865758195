-- Decimal numbers. (ISO/IEC 9899:2011, 6.4.4.1: decimal constants.)
use Rattle.std.specs.Prelude.{◌≡◌, ℕ, ◌+◌, ◌*◌, ◌-◌, ◌<◌, List, length, fold, All, true, codes, refl}
use Rattle.wb_text.specs.Bytes.{is_digit}

-- one decimal digit or more
abbrev pub IsDecimal : List ℕ → Type 0
IsDecimal bytes = (0 < length bytes) × All (λ b. is_digit b ≡ true) bytes

-- the number that decimal digits spell
abbrev pub decimal_value : List ℕ → ℕ
decimal_value digits = fold (λ value digit. value * 10 + (digit - 48)) 0 digits

largest : decimal_value (codes "2147483647") ≡ 2147483647
largest = refl
