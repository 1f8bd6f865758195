-- What is compared or stored of a test. (docs/COMMAND.md, "A suite".)
use Rattle.std.specs.Prelude.{ℕ, List, [], map, length, decimal, Bool, if◌then◌else◌}
use Rattle.std.specs.List.{zip}
use Rattle.slices.specs.Findings.{FindingValue}
use Rattle.slices.specs.VerdictValues.{VerdictValue}
use Rattle.suite.specs.Lines.{answer_text}
use Rattle.suite.specs.declared.case.Case.{Case}
use Rattle.suite.specs.declared.expected.Row.{Row}

-- the fields of a row
pub record RowTexts : Type 0 where
  pub path : List ℕ
  pub model : List ℕ
  pub answer : List ℕ
  pub states : List ℕ

abbrev pub texts_of : Row → RowTexts
texts_of r = record { path = r.path.items; model = r.model.items; answer = r.answer.items; states = r.states.items }

-- a test under a model, with an answer and how many final states there are, or nothing
abbrev pub row_for : Case → List ℕ → List ℕ → RowTexts
row_for c answer states = record { path = c.path.now; model = c.model.now; answer = answer; states = states }

abbrev pub verdict_row : Case → FindingValue → RowTexts
verdict_row c v = row_for c (answer_text v) (decimal (length v.states))

-- each verdict with its own case
abbrev pub verdict_rows : List Case → List VerdictValue → List RowTexts
verdict_rows cs vs = map (λ p. verdict_row p.0 p.1.finding) (zip cs vs)

-- rows, where they are kept
abbrev pub if_kept : Bool → List RowTexts → List RowTexts
if_kept keeps rows = if keeps then rows else []
