-- Texts that are read as files, one after another.
use Rattle.std.proofs.Common.{◌≡◌, ℕ, ◌+◌, ◌<◌, List, [], ◌∷◌, ◌++◌, length, take, get_or, Some, Result, Ok, Err, sym, ap, ◌∙◌, subst, refl}
use Rattle.std.proofs.lemmas.Grind.{take_at_read}
use Rattle.std.specs.Prelude.{IfErr, IsErrAnd}
use Rattle.cat_tree.specs.Tree.{File}
use Rattle.cat_syntax.specs.Reads.{Reads}
use Rattle.cat_model.specs.Files.{version_of, store}
use Rattle.cat_model.specs.declared.files.Entry.{Entry}
use Rattle.suite.specs.declared.fault.ModelTrouble.{ModelTrouble}
use Rattle.suite.specs.declared.fault.ModelTrouble.TheVariants.{Text, Twice, Model, NoMemory}
use Rattle.suite.specs.declared.loading.CatText.{CatText}
use Rattle.suite.specs.Models.{AreFiles, AreUnread, IsNoFile, at_first, behind}

pub first : (es : List Entry) → es ≡ [] → AreFiles [] es
first es none = let P : List Entry → Type 0 = λ l. AreFiles [] l in subst P (sym none) at_first

unread : (ts : List CatText) (place : ℕ) (es : List Entry) (t : CatText) (e : ModelTrouble) → AreFiles (take place ts) es → place < length ts → t ≡ get_or ts place t → IsNoFile t.text.now place e → AreUnread ts e
unread ts place es t (Text n f) files inside here told = record { place = place; text = t; entries = es; files = files; inside = inside; here = here; wrong = told }
unread ts place es t (Twice n) files inside here told = absurd told
unread ts place es t (Model f) files inside here told = absurd told
unread ts place es t NoMemory files inside here told = tt

pub unread_at : {A : Type 0} (ts : List CatText) (place : ℕ) (es : List Entry) (t : CatText) (r : Result A ModelTrouble) (f : ModelTrouble) → IsErrAnd r (λ e. e ≡ f) → AreFiles (take place ts) es → place < length ts → t ≡ get_or ts place t → IsNoFile t.text.now place f → IfErr r (AreUnread ts)
unread_at ts place es t (Ok x) f is files inside here told = tt
unread_at ts place es t (Err e) f is files inside here told =
    let P : ModelTrouble → Type 0 = λ d. AreUnread ts d in subst P (sym is) (unread ts place es t f files inside here told)

pub twice_at : (ts : List CatText) (place : ℕ) (es : List Entry) (t : CatText) → AreFiles (take place ts) es → place < length ts → t ≡ get_or ts place t → 0 < version_of t.name.now es → AreUnread ts (Twice place)
twice_at ts place es t files inside here more = record { place = place; text = t; entries = es; files = files; inside = inside; here = here; wrong = (refl, more) }

front_on : (ts : List CatText) (place : ℕ) (t : CatText) → place < length ts → t ≡ get_or ts place t → take (place + 1) ts ≡ take place ts ++ t ∷ []
front_on ts place t inside here = (take_at_read ts place t inside).1 ∙ ap (λ (y : CatText). take place ts ++ y ∷ []) (sym here)

pub files_on : (ts : List CatText) (place : ℕ) (es more : List Entry) (t : CatText) (f : File) → AreFiles (take place ts) es → place < length ts → t ≡ get_or ts place t → Reads t.text.now f → version_of t.name.now es ≡ 0
    → more ≡ store (record { name = t.name.now; version = 1; file = Some f }) es → AreFiles (take (place + 1) ts) more
files_on ts place es more t f files inside here reads fresh is =
    let P : List CatText → Type 0 = λ l. AreFiles l more in
    let Q : List Entry → Type 0 = λ l. AreFiles (take place ts ++ t ∷ []) l in
    subst P (sym (front_on ts place t inside here)) (subst Q (sym is) (behind t f files reads fresh))
