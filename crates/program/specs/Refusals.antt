-- The line that is printed of an input that is refused.
use Rattle.std.specs.Prelude.{ℕ, List, ◌++◌, codes}
use Rattle.litmus_c.specs.Labels.{test_label}
use Rattle.candidates.specs.Labels.{space_label}
use Rattle.cat_syntax.specs.Labels.{cat_label}
use Rattle.cat_model.specs.Labels.{model_label}
use Rattle.report.specs.Refusals.{test_fault_text, cat_fault_text, model_fault_text, space_fault_text}
use Rattle.program.specs.declared.summary.OneFault.{OneFault}
use Rattle.program.specs.declared.summary.OneFault.TheVariants.{Read, Test, Cat, Model, Space, Write, NoMemory}

-- the number and the name of a fault
abbrev pub one_label : OneFault → List ℕ
one_label Read = codes "96 Read"
one_label (Test f) = test_label f
one_label (Cat f) = cat_label f
one_label (Model f) = model_label f
one_label (Space f) = space_label f
one_label Write = codes "97 Write"
one_label NoMemory = codes "NoMemory"

-- them, and the fields
abbrev pub cause_text : OneFault → List ℕ
cause_text (Test f) = test_fault_text f
cause_text (Cat f) = cat_fault_text f
cause_text (Model f) = model_fault_text f
cause_text (Space f) = space_fault_text f
cause_text Read = one_label Read
cause_text Write = one_label Write
cause_text NoMemory = one_label NoMemory

-- the line
abbrev pub refusal_text : OneFault → List ℕ
refusal_text f = codes "refused " ++ cause_text f ++ codes "\n"
