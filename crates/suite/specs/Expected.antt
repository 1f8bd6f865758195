-- How what is found differs from what is expected.
use denote.Bor.{Bor}
use Rattle.std.specs.Prelude.{◌≡◌, ℕ, List, [], ◌++◌, Bool, ◌&&◌, Option, None, Some, option_map, find, if◌then◌else◌, codes}
use Rattle.std.specs.HashMap.{HashMap, get_by}
use Rattle.std.specs.List.{flat_map}
use Rattle.std.specs.Str.{bytes_eq}
use Rattle.suite.specs.declared.expected.Row.{Row}

-- Two rows are of the same test under the same model.
abbrev pub same_case : Row → Row → Bool
same_case r s = bytes_eq r.path.items s.path.items && bytes_eq r.model.items s.model.items

-- It is of the test at this path under the model at that one.
abbrev pub is_of : Row → List ℕ → List ℕ → Bool
is_of r path model = bytes_eq r.path.items path && bytes_eq r.model.items model

-- Of each case, what the map has at its path and model is the first of the rows.
unfoldable pub HasFirsts : {S : Type 0} → HashMap (Bor (List ℕ) × Bor (List ℕ)) (Bor Row) S → List Row → Type 0
HasFirsts m rows = (r : Row) → option_map (λ s. s.now) (get_by (λ c. is_of r c.0.now c.1.now) m) ≡ find (same_case r) rows

abbrev pub same_answer : Row → Row → Bool
same_answer r s = bytes_eq r.answer.items s.answer.items

abbrev pub same_states : Row → Row → Bool
same_states r s = bytes_eq r.states.items s.states.items

-- a word, the path and the model
abbrev pub case_text : List ℕ → Row → List ℕ
case_text label r = label ++ codes " " ++ r.path.items ++ codes " " ++ r.model.items

-- `CHANGED tests/MP.litmus rc11.cat: was Never 0 3, is Sometimes 1 3`
abbrev pub changed_text : Row → Row → List ℕ
changed_text r s = case_text (codes "CHANGED") r ++ codes ": was " ++ r.answer.items ++ codes ", is " ++ s.answer.items ++ codes "\n"

abbrev pub states_counted : Row → Row → List ℕ
states_counted r s = codes ", was in " ++ r.states.items ++ codes " states, is in " ++ s.states.items ++ codes " states\n"

-- where the answers are the same, and the number of final states is not
abbrev pub states_text : Row → Row → List ℕ
states_text r s = case_text (codes "CHANGED") r ++ codes ": " ++ r.answer.items ++ states_counted r s

abbrev pub between : Row → Row → List ℕ
between r s = if same_answer r s then (if same_states r s then [] else states_text r s) else changed_text r s

abbrev pub missing_text : Row → List ℕ
missing_text r = case_text (codes "MISSING") r ++ codes "\n"

abbrev pub new_text : Row → List ℕ
new_text s = case_text (codes "NEW") s ++ codes ": " ++ s.answer.items ++ codes "\n"

-- what is told of an expected row, where this row was found for it
abbrev pub fate : Row → Option Row → List ℕ
fate r None = missing_text r
fate r (Some s) = between r s

-- what is told of a row that was found, where this one was expected for it
abbrev pub novelty : Row → Option Row → List ℕ
novelty s None = new_text s
novelty s (Some r) = []

-- All differences: of each expected row, in their order, and then each row that wasn't expected.
abbrev pub differences_text : List Row → List Row → List ℕ
differences_text expected found = flat_map (λ r. fate r (find (same_case r) found)) expected ++ flat_map (λ s. novelty s (find (same_case s) expected)) found

-- a row as it is stored: its fields between tabs
abbrev pub stored_text : Row → List ℕ
stored_text r = r.path.items ++ codes "\t" ++ r.model.items ++ codes "\t" ++ r.answer.items ++ codes "\t" ++ r.states.items ++ codes "\n"
