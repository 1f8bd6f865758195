-- A number by which rows are told apart before their values are compared.
use Rattle.std.specs.Prelude.{ℕ, zero, suc, ◌+◌, ◌*◌, List, [], ◌∷◌, nat_lt, if◌then◌else◌}

-- the digit of a row's first value: 0 where there is none, and 15 for all values that are no less than 14
abbrev pub digit : List ℕ → ℕ
digit [] = 0
digit (x ∷ xs) = if nat_lt x 14 then x + 1 else 15

-- the values behind the first one, where its digit tells it; else none
abbrev pub behind : List ℕ → List ℕ
behind [] = []
behind (x ∷ xs) = if nat_lt x 14 then xs else []

-- a number with so many digits more, those of a row
abbrev pub with_digits : ℕ → ℕ → List ℕ → ℕ
with_digits zero number xs = number
with_digits (suc n) number xs = with_digits n (16 * number + digit xs) (behind xs)

-- a number of 16 digits, which rises as rows do
abbrev pub front_of : List ℕ → ℕ
front_of xs = with_digits 16 0 xs
