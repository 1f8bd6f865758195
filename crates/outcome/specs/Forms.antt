-- What is printed of the verdicts on a test, in each form. (docs/COMMAND.md, "What is printed"; herd7 manual, the output of herd7, for the words.)
use Rattle.std.specs.Prelude.{ℕ, List, [], ◌++◌, Bool, not, map, codes}
use Rattle.std.specs.List.{flat_map, zip}
use Rattle.serde_json.specs.Written.{compact_text}
use Rattle.report.specs.Texts.{Text}
use Rattle.slices.specs.Findings.{FindingValue}
use Rattle.slices.specs.VerdictValues.{VerdictValue}
use Rattle.suite.specs.Lines.{line_text, row_text}
use Rattle.suite.specs.Objects.{object_data}
use Rattle.suite.specs.Tables.{cell, are_alike, table_row}
use Rattle.suite.specs.declared.case.Case.{Case}
use Rattle.outcome.specs.declared.form.Form.{Form}
use Rattle.outcome.specs.declared.form.Form.TheVariants.{Summary, Line, Table, Tabs, Json}
use Rattle.outcome.specs.declared.form.Tested.{Tested}
use Rattle.outcome.specs.declared.form.Wanted.{Wanted}

-- Of a verdict by itself: a summary with an empty line behind it, a line, fields between tabs, or an object on a line. A table tells all verdicts at once.
abbrev pub verdict_text : Form → ℕ → Case → FindingValue → List ℕ
verdict_text Summary ms c v = Text v ++ codes "\n"
verdict_text Line ms c v = line_text c.path.now v
verdict_text Table ms c v = []
verdict_text Tabs ms c v = row_text c ms v
verdict_text Json ms c v = compact_text (object_data c ms v) ++ codes "\n"

-- each verdict with its own case, in the order of the models
abbrev pub verdicts_text : Form → ℕ → List Case → List VerdictValue → List ℕ
verdicts_text form ms cs vs = flat_map (λ p. verdict_text form ms p.0 p.1.finding) (zip cs vs)

-- what the cells of a table tell
abbrev pub cells_of : List VerdictValue → List (List ℕ)
cells_of vs = map (λ v. cell v.finding) vs

-- a row of the test's path and of each cell below its model's name
abbrev pub table_text : Form → Wanted → Tested → List (List ℕ) → List ℕ
table_text Table w t cells = table_row w.width t.path.now (map (λ m. m.items) w.models.now) cells
table_text form w t cells = []

abbrev pub lines_text : Wanted → Tested → List VerdictValue → List ℕ
lines_text w t vs = table_text w.form w t (cells_of vs) ++ verdicts_text w.form t.milliseconds t.cases.now vs

-- whether the models tell different words or flags
abbrev pub differ : List VerdictValue → Bool
differ vs = not (are_alike (cells_of vs))
