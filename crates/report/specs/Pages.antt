-- The line of a state, from texts that are made once, and bytes that are held back.
use Rattle.std.specs.Prelude.{◌≡◌, ℕ, List, [], ◌∷◌, ◌++◌, Option, codes, decimal}
use Rattle.std.specs.Io.KnownBytes.{Appends}
use Rattle.conditions.specs.declared.place.Place.{Place}
use Rattle.report.specs.Texts.{place_text}

-- what stands before each place's value: the place, behind a space if it isn't the first
abbrev pub labels_from : List ℕ → List Place → List (List ℕ)
labels_from separator [] = []
labels_from separator (place ∷ places) = (separator ++ place_text place ++ codes "=") ∷ labels_from (codes " ") places

-- values, each behind its label
abbrev pub labelled : List (List ℕ) → List ℕ → List ℕ
labelled [] values = []
labelled (label ∷ labels) [] = []
labelled (label ∷ labels) (value ∷ values) = (label ++ (decimal value ++ codes ";")) ++ labelled labels values

-- bytes come behind those that are held back, of which the first are written
abbrev pub Holds : Option (List ℕ) → List ℕ → Option (List ℕ) → List ℕ → List ℕ → Type 0
Holds old before new after bytes = (sent : List ℕ) × Appends old new sent × (before ++ bytes ≡ sent ++ after)
