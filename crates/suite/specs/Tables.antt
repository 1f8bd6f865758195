-- A table of tests and models: a row for each test, a column for each model.
use Rattle.std.specs.Prelude.{ℕ, ◌-◌, List, [], ◌∷◌, ◌++◌, length, max, replicate, Bool, true, ◌&&◌, if◌then◌else◌, codes}
use Rattle.std.specs.Str.{bytes_eq}
use Rattle.slices.specs.Findings.{FindingValue, word}
use Rattle.suite.specs.Lines.{flagged}

-- how wide a model's column is: as its name, or as the longest word
abbrev pub column : List ℕ → ℕ
column model = max (length model) 9

-- what a cell tells: the word, and the flags
abbrev pub cell : FindingValue → List ℕ
cell v = word v ++ flagged 32 v

-- whether all texts are this one
abbrev pub are_all : List ℕ → List (List ℕ) → Bool
are_all text [] = true
are_all text (other ∷ others) = bytes_eq text other && are_all text others

-- whether all texts are the same
abbrev pub are_alike : List (List ℕ) → Bool
are_alike [] = true
are_alike (first ∷ rest) = are_all first rest

-- each cell behind two blanks and those that fill the column before it, which lacks so many; so no row ends in blanks
abbrev pub cells_text : ℕ → List (List ℕ) → List (List ℕ) → List ℕ
cells_text lacking [] cells = []
cells_text lacking (m ∷ ms) [] = []
cells_text lacking (m ∷ ms) (c ∷ cs) = replicate lacking 32 ++ codes "  " ++ c ++ cells_text (column m - length c) ms cs

-- the head: the models' names over their columns
abbrev pub head_text : ℕ → List (List ℕ) → List ℕ
head_text width models = codes "  " ++ cells_text width models models ++ codes "\n"

-- a test's row: a star where the models differ, the path, and the cells
abbrev pub table_row : ℕ → List ℕ → List (List ℕ) → List (List ℕ) → List ℕ
table_row width path models cells = (if are_alike cells then codes "  " else codes "* ") ++ path ++ cells_text (width - length path) models cells ++ codes "\n"
