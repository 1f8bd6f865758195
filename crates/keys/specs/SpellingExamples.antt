-- Values as they are written.
use Rattle.std.specs.Prelude.{◌≡◌, [], ◌∷◌, Some, None}
use Rattle.keys.specs.Spelling.{number_over, spelled_number, spelled_bytes, spelled_list, spelled_option, spelled_pair}

abbrev pub SmallNumber : Type 0
SmallNumber = number_over 254 (9 ∷ []) ≡ 254 ∷ 9 ∷ []

-- 1000 is 3 * 256 + 232
abbrev pub GreatNumber : Type 0
GreatNumber = number_over 1000 (9 ∷ []) ≡ 255 ∷ 0 ∷ 0 ∷ 0 ∷ 0 ∷ 0 ∷ 0 ∷ 3 ∷ 232 ∷ 9 ∷ []

-- the name `x0`
abbrev pub NameOfTwo : Type 0
NameOfTwo = spelled_bytes.over (120 ∷ 48 ∷ []) [] ≡ 2 ∷ 48 ∷ 120 ∷ []

abbrev pub ListOfPairs : Type 0
ListOfPairs = (spelled_list (spelled_pair spelled_number (spelled_option spelled_number))).over ((5, None) ∷ (6, Some 7) ∷ []) [] ≡ 2 ∷ 1 ∷ 7 ∷ 6 ∷ 0 ∷ 5 ∷ []
