-- What is printed of a verdict in one line. (herd7 manual, the output of herd7, for the words; the order of the fields is this project's.)
use Rattle.std.specs.Prelude.{ℕ, List, [], ◌∷◌, ◌++◌, length, if◌then◌else◌, codes, decimal}
use Rattle.std.specs.List.{flat_map}
use Rattle.litmus_tree.specs.Tree.{Word}
use Rattle.report.specs.Texts.{kind_text}
use Rattle.slices.specs.Findings.{FindingValue, is_ok, word}
use Rattle.suite.specs.declared.case.Case.{Case}

abbrev pub answer_word : FindingValue → List ℕ
answer_word v = if is_ok v then codes "Ok" else codes "No"

-- The fields stand between separators: a blank in a line for people, a tab in a table for programs.

-- Ok or No, the word, both counts
abbrev pub counted : ℕ → FindingValue → List ℕ
counted by v = answer_word v ++ (by ∷ word v) ++ (by ∷ decimal v.positive) ++ (by ∷ decimal v.negative)

-- each flag behind a byte
abbrev pub flagged : ℕ → FindingValue → List ℕ
flagged by v = flat_map (λ name. by ∷ name) v.flags

-- the word, both counts and the flags: `Sometimes 1 3 data-race`
abbrev pub answer_text : FindingValue → List ℕ
answer_text v = word v ++ (32 ∷ decimal v.positive) ++ (32 ∷ decimal v.negative) ++ flagged 32 v

-- a test's path, its name, Ok or No, the word, both counts, and the flags: `race.litmus race Ok Sometimes 1 3 data-race`
abbrev pub line_text : List ℕ → FindingValue → List ℕ
line_text path v = path ++ codes " " ++ v.name ++ codes " " ++ counted 32 v ++ flagged 32 v ++ codes "\n"

-- names with commas between
abbrev pub listed : List Word → List ℕ
listed [] = []
listed (name ∷ names) = name ++ flat_map (λ other. 44 ∷ other) names

-- a test's path, the model, and the test's name and kind, a tab behind each
abbrev pub whose : Case → FindingValue → List ℕ
whose c v = c.path.now ++ codes "\t" ++ c.model.now ++ codes "\t" ++ v.name ++ codes "\t" ++ kind_text v.kind ++ codes "\t"

-- how many states there are, and the flags
abbrev pub seen : FindingValue → List ℕ
seen v = (9 ∷ decimal (length v.states)) ++ codes "\t" ++ listed v.flags

-- whose they are, Ok or No, the word, both counts, how many states there are, the flags, the milliseconds, and the digests of the model's texts
abbrev pub row_text : Case → ℕ → FindingValue → List ℕ
row_text c ms v = whose c v ++ counted 9 v ++ seen v ++ (9 ∷ decimal ms) ++ codes "\t" ++ c.digests.now ++ codes "\n"
