-- Numbers whose digits are the values of a final state. No statement on what is found rests on this.
use Rattle.std.specs.Prelude.{◌≡◌, ℕ, ◌+◌, ◌*◌, ◌<◌, List, [], ◌∷◌, Option, IfSome}

-- each value is a digit
abbrev pub AreDigits : ℕ → List ℕ → Type 0
AreDigits base [] = Unit {0}
AreDigits base (x ∷ xs) = (x < base) × AreDigits base xs

-- a number with these digits behind it
abbrev pub with_values : ℕ → ℕ → List ℕ → ℕ
with_values base number [] = number
with_values base number (x ∷ xs) = with_values base (number * base + x) xs

-- the number whose digits they are, if there is one
abbrev pub HasNumber : ℕ → List ℕ → Option ℕ → Type 0
HasNumber base xs number = IfSome number (λ n. AreDigits base xs × (n ≡ with_values base 0 xs))
