-- The printed refusals of a book: the label, which is the number and the name, and the fields, parted by spaces. A refusal
-- that holds another fault has that one's label and fields behind its own label.
use Rattle.std.specs.Prelude.{ℕ, List, ◌++◌, codes, decimal}
use Rattle.wb_text.specs.Labels.{text_label}
use Rattle.litmus_c.specs.Labels.{test_label}
use Rattle.candidates.specs.Labels.{space_label}
use Rattle.cat_syntax.specs.Labels.{cat_label}
use Rattle.cat_model.specs.Labels.{model_label}
use Rattle.litmus_c.specs.declared.fault.TestFault.{TestFault}
use Rattle.litmus_c.specs.declared.fault.TestFault.TheVariants as of_test
use Rattle.candidates.specs.declared.fault.SpaceFault.{SpaceFault}
use Rattle.candidates.specs.declared.fault.SpaceFault.TheVariants as of_space
use Rattle.cat_syntax.specs.declared.fault.CatFault.{CatFault}
use Rattle.cat_syntax.specs.declared.fault.CatFault.TheVariants as of_cat
use Rattle.cat_model.specs.declared.fault.ModelFault.{ModelFault}
use Rattle.cat_model.specs.declared.fault.ModelFault.TheVariants as of_model
use Rattle.journal.specs.declared.records.Replacement.{Replacement}
use Rattle.journal.specs.declared.records.SourceKind.{SourceKind}
use Rattle.journal.specs.declared.records.SourceKind.TheVariants as kinds
use Rattle.journal.specs.declared.records.Refusal.{Refusal}
use Rattle.journal.specs.declared.records.Refusal.TheVariants.{Closed, ReadingTest, ReadingCat, NoTest, Model, Space, JobsFull, NoJob, NoClaim, Replaced, Stranger, VersionsSpent, ClaimsSpent}

-- a label with a field behind it
abbrev pub with_field : List ℕ → List ℕ → List ℕ
with_field label field = label ++ codes " " ++ field

abbrev pub test_fault_text : TestFault → List ℕ
test_fault_text (of_test.Text f) = with_field (test_label (of_test.Text f)) (text_label f)
test_fault_text (of_test.Syntax offset) = with_field (test_label (of_test.Syntax offset)) (decimal offset)
test_fault_text (of_test.Unsupported word) = with_field (test_label (of_test.Unsupported word)) word
test_fault_text of_test.BadOrder = test_label of_test.BadOrder
test_fault_text of_test.UnknownName = test_label of_test.UnknownName
test_fault_text of_test.PlainOnAtomic = test_label of_test.PlainOnAtomic
test_fault_text of_test.AtomicOnPlain = test_label of_test.AtomicOnPlain
test_fault_text of_test.TooDeep = test_label of_test.TooDeep
test_fault_text of_test.TooManyThreads = test_label of_test.TooManyThreads
test_fault_text of_test.TooManyLocations = test_label of_test.TooManyLocations
test_fault_text of_test.TooManyEvents = test_label of_test.TooManyEvents
test_fault_text of_test.TooManyValues = test_label of_test.TooManyValues
test_fault_text of_test.ValueTooBig = test_label of_test.ValueTooBig
test_fault_text of_test.NoMemory = test_label of_test.NoMemory

abbrev pub cat_fault_text : CatFault → List ℕ
cat_fault_text (of_cat.Text f) = with_field (cat_label (of_cat.Text f)) (text_label f)
cat_fault_text (of_cat.Syntax offset) = with_field (cat_label (of_cat.Syntax offset)) (decimal offset)
cat_fault_text (of_cat.Unsupported word) = with_field (cat_label (of_cat.Unsupported word)) word
cat_fault_text of_cat.TooDeep = cat_label of_cat.TooDeep
cat_fault_text of_cat.TooLarge = cat_label of_cat.TooLarge
cat_fault_text of_cat.NoMemory = cat_label of_cat.NoMemory

abbrev pub model_fault_text : ModelFault → List ℕ
model_fault_text (of_model.NoCat name) = with_field (model_label (of_model.NoCat name)) name
model_fault_text (of_model.NoInclude name) = with_field (model_label (of_model.NoInclude name)) name
model_fault_text (of_model.IncludeCycle name) = with_field (model_label (of_model.IncludeCycle name)) name
model_fault_text (of_model.Unbound name) = with_field (model_label (of_model.Unbound name)) name
model_fault_text (of_model.WrongSort name) = with_field (model_label (of_model.WrongSort name)) name
model_fault_text (of_model.NotMonotone name) = with_field (model_label (of_model.NotMonotone name)) name
model_fault_text (of_model.CallsTooLarge name) = with_field (model_label (of_model.CallsTooLarge name)) name
model_fault_text of_model.FlagWithoutName = model_label of_model.FlagWithoutName
model_fault_text of_model.ModelTooLarge = model_label of_model.ModelTooLarge
model_fault_text of_model.NoMemory = model_label of_model.NoMemory

abbrev pub space_fault_text : SpaceFault → List ℕ
space_fault_text (of_space.TooManyRuns thread) = with_field (space_label (of_space.TooManyRuns thread)) (decimal thread)
space_fault_text of_space.TooManyCandidates = space_label of_space.TooManyCandidates
space_fault_text of_space.NoMemory = space_label of_space.NoMemory

abbrev pub reading_test_text : TestFault → List ℕ
reading_test_text f = codes "72 Reading " ++ test_fault_text f

abbrev pub reading_cat_text : CatFault → List ℕ
reading_cat_text f = codes "72 Reading " ++ cat_fault_text f

abbrev pub space_text : SpaceFault → List ℕ
space_text f = codes "75 Space " ++ space_fault_text f

abbrev pub model_text : ModelFault → List ℕ
model_text f = codes "74 Model " ++ model_fault_text f

abbrev pub kind_text : SourceKind → List ℕ
kind_text kinds.Test = codes "test"
kind_text kinds.Cat = codes "cat"

abbrev pub replacement_text : Replacement → List ℕ
replacement_text r = codes "79 Replaced " ++ kind_text r.kind ++ codes " " ++ r.name ++ codes " " ++ decimal r.version

abbrev pub cause_text : Refusal → List ℕ
cause_text Closed = codes "71 Closed"
cause_text (ReadingTest f) = reading_test_text f
cause_text (ReadingCat f) = reading_cat_text f
cause_text (NoTest name) = with_field (codes "73 NoTest") name
cause_text (Model f) = model_text f
cause_text (Space f) = space_text f
cause_text JobsFull = codes "76 JobsFull"
cause_text (NoJob job) = with_field (codes "77 NoJob") (decimal job)
cause_text (NoClaim claim) = with_field (codes "78 NoClaim") (decimal claim)
cause_text (Replaced r) = replacement_text r
cause_text (Stranger claim) = with_field (codes "80 Stranger") (decimal claim)
cause_text (VersionsSpent name) = with_field (codes "81 VersionsSpent") name
cause_text ClaimsSpent = codes "82 ClaimsSpent"

-- the line of a refusal
abbrev pub refusal_text : Refusal → List ℕ
refusal_text e = codes "refused " ++ cause_text e ++ codes "\n"
