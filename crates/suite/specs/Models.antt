-- The model of some cat texts.
use Rattle.std.specs.Prelude.{◌≡◌, ℕ, ◌<◌, List, [], ◌∷◌, ◌++◌, length, take, get_or, Some}
use Rattle.cat_tree.specs.Tree.{Word, File}
use Rattle.cat_syntax.specs.Reads.{Reads, IsRefused}
use Rattle.cat_model.specs.Faults.{IsCause}
use Rattle.cat_model.specs.Files.{version_of, store}
use Rattle.cat_model.specs.Models.{Assembly}
use Rattle.cat_model.specs.declared.files.Entry.{Entry}
use Rattle.slices.specs.Works.{IsModelOf}
use Rattle.suite.specs.declared.fault.ModelTrouble.{ModelTrouble}
use Rattle.suite.specs.declared.fault.ModelTrouble.TheVariants.{Text, Twice, Model, NoMemory}
use Rattle.suite.specs.declared.loading.CatText.{CatText}

-- These are the files of the texts: each text reads as a file, which is put under the text's name, at version 1, where no earlier text has
-- that name.
pub data AreFiles : List CatText → List Entry → Type 0 where
  at_first : AreFiles [] []
  behind : {ts : List CatText} {es : List Entry} (t : CatText) (f : File) → AreFiles ts es → Reads t.text.now f → version_of t.name.now es ≡ 0
      → AreFiles (ts ++ t ∷ []) (store (record { name = t.name.now; version = 1; file = Some f }) es)

-- The texts read as files that give this model at the root.
abbrev pub GiveModel : List CatText → Word → Assembly → Type 0
GiveModel ts root m = (es : List Entry) × AreFiles ts es × IsModelOf es root m

-- The text at this place reads as no file, for the cause that is told. Or memory ran out.
abbrev pub IsNoFile : List ℕ → ℕ → ModelTrouble → Type 0
IsNoFile text place (Text n fault) = (n ≡ place) × ((f : File) → ¬ Reads text f) × IsRefused text fault
IsNoFile text place NoMemory = Unit {0}
IsNoFile text place e = ⊥

-- The text t at this place, before which these files were read, is what the trouble is about: it reads as no file, or has the name of one of
-- those.
abbrev pub IsWrong : List Entry → CatText → ℕ → ModelTrouble → Type 0
IsWrong es t place (Twice n) = (n ≡ place) × (0 < version_of t.name.now es)
IsWrong es t place e = IsNoFile t.text.now place e

-- The texts up to one are files, and that one is what the trouble is about.
pub record StopAt (ts : List CatText) (e : ModelTrouble) : Type 0 where
  pub place : ℕ
  pub text : CatText
  pub entries : List Entry
  pub files : AreFiles (take place ts) entries
  pub inside : place < length ts
  pub here : text ≡ get_or ts place text
  pub wrong : IsWrong entries text place e

-- Why the texts are no files.
abbrev pub AreUnread : List CatText → ModelTrouble → Type 0
AreUnread ts NoMemory = Unit {0}
AreUnread ts e = StopAt ts e

-- Why the texts give no model at the root: they are no files, or the files give none.
abbrev pub GiveNoModel : List CatText → Word → ModelTrouble → Type 0
GiveNoModel ts root (Model fault) = (es : List Entry) × AreFiles ts es × IsCause fault es root
GiveNoModel ts root e = AreUnread ts e
