-- Rows that were stored, or printed between tabs, read back. (docs/COMMAND.md, "A suite".)
use Rattle.std.specs.Prelude.{◌≡◌, ◌≢◌, ℕ, ◌+◌, List, [], ◌∷◌, ◌++◌, All, length, take, get_or, fold, ◌==◌, Option, Some, None, slice_get, if◌then◌else◌, codes}
use Rattle.std.specs.List.{slice_split}
use Rattle.std.specs.Str.{bytes_eq}
use Rattle.suite.specs.declared.expected.Row.{Row}
use Rattle.outcome.specs.Rows.{RowTexts}
use Rattle.outcome.specs.declared.reading.RowsFault.{RowsFault}
use Rattle.outcome.specs.declared.reading.RowsFault.TheVariants.{NoRow, NoMemory}

-- no tab and no line feed
abbrev pub IsField : List ℕ → Type 0
IsField text = All (λ b. (b ≢ 9) × (b ≢ 10)) text

-- so it is of each field of a row
pub record IsWhole (r : Row) : Type 0 where
  pub path : IsField r.path.items
  pub model : IsField r.model.items
  pub answer : IsField r.answer.items
  pub states : IsField r.states.items

-- the parts of a text between these bytes
abbrev pub parts : ℕ → List ℕ → List (List ℕ)
parts between text = slice_split (λ b. b == between) text

-- a word behind a text, with a blank between; an empty word adds nothing
abbrev pub with_word : List ℕ → List ℕ → List ℕ
with_word text word = if length word == 0 then text else (if length text == 0 then word else text ++ 32 ∷ word)

abbrev pub joined : List (List ℕ) → List ℕ
joined words = fold with_word [] words

abbrev pub field : ℕ → List (List ℕ) → List ℕ
field k fields = get_or fields k []

-- a stored line: path, model, answer, states
abbrev pub of_stored : List (List ℕ) → RowTexts
of_stored fs = record { path = field 0 fs; model = field 1 fs; answer = field 2 fs; states = field 3 fs }

-- The answer of a line for programs: of a refusal its label, else the word, both counts and the flags.
abbrev pub answer_in : List (List ℕ) → List ℕ
answer_in fs =
    if bytes_eq (field 4 fs) (codes "refused")
    then joined (field 4 fs ∷ field 5 fs ∷ [])
    else joined ((field 5 fs ∷ field 6 fs ∷ field 7 fs ∷ []) ++ parts 44 (field 9 fs))

-- such a line: path, model, name, kind, Ok or No or `refused`, word, positive, negative, states, flags, milliseconds, digests
abbrev pub of_printed : List (List ℕ) → RowTexts
of_printed fs = record { path = field 0 fs; model = field 1 fs; answer = answer_in fs; states = field 8 fs }

abbrev pub of_fields : List (List ℕ) → Option RowTexts
of_fields fs = if length fs == 4 then Some (of_stored fs) else if length fs == 12 then Some (of_printed fs) else None

-- the row of a line, if it is one
abbrev pub row_of_line : List ℕ → Option RowTexts
row_of_line line = of_fields (parts 9 line)

-- These are the rows of the lines, in their order. An empty line is none.
abbrev pub AreRowsOf : List (List ℕ) → List RowTexts → Type 0
AreRowsOf [] rows = rows ≡ []
AreRowsOf ([] ∷ lines) rows = AreRowsOf lines rows
AreRowsOf ((b ∷ bs) ∷ lines) [] = ⊥
AreRowsOf ((b ∷ bs) ∷ lines) (row ∷ rows) = (row_of_line (b ∷ bs) ≡ Some row) × AreRowsOf lines rows

-- The line behind the first k isn't empty and is no row, and those before are read.
pub record EndsAt (lines : List (List ℕ)) (k : ℕ) : Type 0 where
  pub before : List RowTexts
  pub read : AreRowsOf (take k lines) before
  pub line : List ℕ
  pub here : slice_get lines k ≡ Some line
  pub filled : line ≢ []
  pub other : row_of_line line ≡ None

-- The line of this number, counted from 1, is the first that isn't empty and is no row. Or memory ran out.
abbrev pub IsNoRow : List (List ℕ) → RowsFault → Type 0
IsNoRow lines (NoRow number) = (k : ℕ) × (number ≡ k + 1) × EndsAt lines k
IsNoRow lines NoMemory = Unit {0}
