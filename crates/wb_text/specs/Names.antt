-- Names of tests, locations, registers and files.
use Rattle.std.specs.Prelude.{ℕ, ◌≤◌, List, length, All}

-- a printable ASCII byte that is no blank
abbrev pub IsPrintable : ℕ → Type 0
IsPrintable b = (33 ≤ b) × (b ≤ 126)

-- 1 to 64 printable bytes
pub record IsName (bytes : List ℕ) : Type 0 where
  pub nonempty : 1 ≤ length bytes
  pub at_most : length bytes ≤ 64
  pub printable : All IsPrintable bytes
