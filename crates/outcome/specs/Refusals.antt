-- What is told of a test that has no verdict. (docs/COMMAND.md, "What is printed" and "What is refused".)
use Rattle.std.specs.Prelude.{◌≡◌, ℕ, List, [], ◌++◌, map, codes, decimal}
use Rattle.std.specs.List.{flat_map}
use Rattle.serde_json.specs.Data.{Data, number, unsigned, string, object, member, no_members}
use Rattle.serde_json.specs.Written.{compact_text}
use Rattle.candidates.specs.Labels.{space_label}
use Rattle.litmus_c.specs.Labels.{test_label}
use Rattle.fault_messages.specs.Told.{TellsTest, IsMessageAlone}
use Rattle.suite.specs.declared.case.Case.{Case}
use Rattle.suite.specs.declared.fault.TestTrouble.{TestTrouble}
use Rattle.suite.specs.declared.fault.TestTrouble.TheVariants.{Test, Space, Late, NoMemory}
use Rattle.outcome.specs.Forms.{table_text}
use Rattle.outcome.specs.Rows.{RowTexts, row_for}
use Rattle.outcome.specs.declared.form.Form.{Form}
use Rattle.outcome.specs.declared.form.Form.TheVariants.{Summary, Line, Table, Tabs, Json}
use Rattle.outcome.specs.declared.form.Tested.{Tested}
use Rattle.outcome.specs.declared.form.Wanted.{Wanted}

-- the number and the name of a refusal
abbrev pub label : TestTrouble → List ℕ
label (Test fault) = test_label fault
label (Space fault) = space_label fault
label Late = codes "Late"
label NoMemory = codes "NoMemory"

-- the fields of a verdict, with `refused` for Ok or No and the label for the word, and without those that a refused test hasn't
abbrev pub refusal_row : Case → ℕ → List ℕ → List ℕ
refusal_row c ms label =
    c.path.now ++ codes "\t" ++ c.model.now ++ codes "\t\t\t" ++ codes "refused\t" ++ label ++ codes "\t\t\t\t\t" ++ decimal ms ++ codes "\t" ++ c.digests.now ++ codes "\n"

-- for people, with the label for what a verdict's line has behind its path
abbrev pub refusal_line : Case → List ℕ → List ℕ
refusal_line c label = c.path.now ++ codes " refused " ++ label ++ codes "\n"

-- the members, in the order of their names
abbrev pub refusal_data : Case → ℕ → List ℕ → Data
refusal_data c ms label =
    object (member (codes "digests") (string c.digests.now)
    (member (codes "file") (string c.path.now)
    (member (codes "milliseconds") (number (unsigned ms))
    (member (codes "model") (string c.model.now)
    (member (codes "refused") (string label)
    no_members)))))

-- Of a refusal under one model: a line, fields between tabs, or an object on a line. A summary tells nothing of it, and a table what all models have at once.
abbrev pub refusal_text : Form → ℕ → List ℕ → Case → List ℕ
refusal_text Summary ms label c = []
refusal_text Line ms label c = refusal_line c label
refusal_text Table ms label c = []
refusal_text Tabs ms label c = refusal_row c ms label
refusal_text Json ms label c = compact_text (refusal_data c ms label) ++ codes "\n"

-- what a table tells under each of the models
abbrev pub refused_cells : Wanted → List (List ℕ)
refused_cells w = map (λ m. codes "refused") w.models.now

-- in a table the test's row, else what is told under each of the models
abbrev pub refusals_text : Wanted → Tested → TestTrouble → List ℕ
refusals_text w t trouble = table_text w.form w t (refused_cells w) ++ flat_map (refusal_text w.form t.milliseconds (label trouble)) t.cases.now

-- `refused 13 BadOrder`, and no number of states
abbrev pub refused_row : List ℕ → Case → RowTexts
refused_row label c = row_for c (codes "refused " ++ label) []

abbrev pub refused_rows : Tested → TestTrouble → List RowTexts
refused_rows t trouble = map (refused_row (label trouble)) t.cases.now

-- where a test was given up
abbrev pub late_message : List ℕ → List ℕ
late_message path = path ++ codes ": given up: it took longer than --timeout says\n"

-- The message on standard error.
abbrev pub Tells : (path text : List ℕ) → TestTrouble → List ℕ → Type 0
Tells path text (Test fault) bytes = TellsTest path text fault bytes
Tells path text (Space fault) bytes = IsMessageAlone path (space_label fault) bytes
Tells path text Late bytes = bytes ≡ late_message path
Tells path text NoMemory bytes = ⊥
