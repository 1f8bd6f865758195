-- What is answered to an input under a cat text.
use Rattle.std.specs.Prelude.{ℕ, List, [], ◌∷◌, take, Option, Some, codes}
use Rattle.std.specs.Io.KnownBytes.{Appends}
use Rattle.wb_text.specs.Memory.{AppendsPrefix}
use Rattle.litmus_tree.specs.Tree.{Litmus, Word}
use Rattle.litmus_c.specs.Reads.{Reads, IsRefused}
use Rattle.litmus_c.specs.declared.fault.TestFault.TheVariants as of_test
use Rattle.cat_syntax.specs.Reads.{Reads as ReadsCat, IsRefused as IsRefusedCat}
use Rattle.cat_syntax.specs.declared.fault.CatFault.TheVariants as of_cat
use Rattle.cat_model.specs.declared.fault.ModelFault.TheVariants as of_model
use Rattle.candidates.specs.declared.fault.SpaceFault.TheVariants as of_space
use Rattle.cat_tree.specs.Tree.{File}
use Rattle.cat_model.specs.Faults.{IsCause}
use Rattle.cat_model.specs.Models.{Assembly}
use Rattle.cat_model.specs.declared.files.Entry.{Entry}
use Rattle.candidates.specs.Faults.{IsSpaceFault}
use Rattle.program.specs.declared.summary.OneFault.{OneFault}
use Rattle.program.specs.declared.summary.OneFault.TheVariants.{Read, Test, Cat, Model, Space, Write, NoMemory}
use Rattle.slices.specs.Findings.{FindingValue}
use Rattle.slices.specs.Works.{IsModelOf}
use Rattle.slices.specs.Verdicts.{IsVerdict}
use Rattle.report.specs.Texts.{Text}

-- what is read of an input: at most one byte more than a text may have
abbrev pub text_of : List ℕ → List ℕ
text_of input = take 65537 input

-- A cat text's file is the root, beside the built-in files.

abbrev pub main_name : Word
main_name = codes "main.cat"

abbrev pub files_with : File → List Entry
files_with f = record { name = main_name; version = 1; file = Some f } ∷ []

-- The cat text reads as a file that gives this model.
abbrev pub GivesModel : List ℕ → Assembly → Type 0
GivesModel cat m = (f : File) × ReadsCat cat f × IsModelOf (files_with f) main_name m

-- The text reads as a test and the cat text gives a model, and the finding is right for them.
abbrev pub HasFinding : List ℕ → List ℕ → FindingValue → Type 0
HasFinding text cat v = (t : Litmus) × Reads text t × ((m : Assembly) × GivesModel cat m × IsVerdict t m.items v)

-- The writer has been given the summary of a right finding.
abbrev pub Summarizes : List ℕ → List ℕ → Option (List ℕ) → Option (List ℕ) → Type 0
Summarizes text cat old new = (v : FindingValue) × HasFinding text cat v × Appends old new (Text v)

-- The writer has been given a prefix of it.
abbrev pub SummarizesPartly : List ℕ → List ℕ → Option (List ℕ) → Option (List ℕ) → Type 0
SummarizesPartly text cat old new = (v : FindingValue) × HasFinding text cat v × AppendsPrefix old new (Text v)

-- Why there is no summary: the text reads as no test; or it does, and the cat text reads as no file; or both do, and the
-- file gives no model; or it gives one, and the test has too many runs or candidates. The fault's own cause holds, and want
-- of memory is none of these. Or memory ran out.
abbrev pub IsRefusal : List ℕ → List ℕ → OneFault → Type 0
IsRefusal text cat (Test of_test.NoMemory) = ⊥
IsRefusal text cat (Test e) = ((t : Litmus) → ¬ Reads text t) × IsRefused text e
IsRefusal text cat (Cat of_cat.NoMemory) = ⊥
IsRefusal text cat (Cat e) = (t : Litmus) × Reads text t × (((f : File) → ¬ ReadsCat cat f) × IsRefusedCat cat e)
IsRefusal text cat (Model of_model.NoMemory) = ⊥
IsRefusal text cat (Model e) = (t : Litmus) × Reads text t × ((f : File) × ReadsCat cat f × IsCause e (files_with f) main_name)
IsRefusal text cat (Space of_space.NoMemory) = ⊥
IsRefusal text cat (Space e) = (t : Litmus) × Reads text t × ((m : Assembly) × GivesModel cat m × IsSpaceFault t e)
IsRefusal text cat NoMemory = Unit {0}
IsRefusal text cat Read = ⊥
IsRefusal text cat Write = ⊥

-- A fault that is not the reader's or the writer's is a refusal of the texts.
abbrev pub IsFaultOf : List ℕ → List ℕ → OneFault → Type 0
IsFaultOf text cat Read = Unit {0}
IsFaultOf text cat Write = Unit {0}
IsFaultOf text cat e = IsRefusal text cat e

-- A fault of the texts, and not of the reader, the writer or memory.
abbrev pub IsOfTexts : OneFault → Type 0
IsOfTexts Read = ⊥
IsOfTexts Write = ⊥
IsOfTexts NoMemory = ⊥
IsOfTexts e = Unit {0}
