-- What the faults of lower layers tell.
use Rattle.std.proofs.Common.{◌≡◌, ◌⊎◌, ℕ, List, Result, Ok, Err, IfErr, inl, inr, refl, sym, subst}
use Rattle.std.specs.Prelude.{MatchResult}
use Rattle.litmus_tree.specs.Tree.{Litmus}
use Rattle.litmus_c.specs.Reads.{Reads as ReadsTest, IsRefused as IsRefusedTest}
use Rattle.litmus_c.specs.declared.fault.TestFault.{TestFault}
use Rattle.litmus_c.specs.declared.fault.TestFault.TheVariants as of_test
use Rattle.candidates.specs.Faults.{IsSpaceFault}
use Rattle.candidates.specs.declared.fault.SpaceFault.{SpaceFault}
use Rattle.candidates.specs.declared.fault.SpaceFault.TheVariants as of_space
use Rattle.cat_tree.specs.Tree.{Word, File}
use Rattle.cat_model.specs.Faults.{IsCause}
use Rattle.cat_model.specs.declared.files.Entry.{Entry}
use Rattle.cat_model.specs.declared.fault.ModelFault.{ModelFault}
use Rattle.cat_model.specs.declared.fault.ModelFault.TheVariants as of_model
use Rattle.cat_syntax.specs.Reads.{Reads, IsRefused}
use Rattle.cat_syntax.specs.declared.fault.CatFault.{CatFault}
use Rattle.cat_syntax.specs.declared.fault.CatFault.TheVariants as of_cat
use Rattle.suite.specs.Judged.{HasNone, IsUntold}
use Rattle.suite.specs.Models.{AreFiles, GiveNoModel, IsNoFile}
use Rattle.suite.specs.declared.loading.CatText.{CatText}
use Rattle.suite.specs.declared.fault.ModelTrouble.{ModelTrouble}
use Rattle.suite.specs.declared.fault.TestTrouble.{TestTrouble}
use Rattle.suite.specs.Troubles.{text_trouble, files_trouble, test_trouble, space_trouble}

pub no_file : (text : List ℕ) (place : ℕ) (f : CatFault) → ((g : File) → Reads text g → f ≡ of_cat.NoMemory) → IsRefused text f → IsNoFile text place (text_trouble place f)
no_file text place of_cat.NoMemory only cause = tt
no_file text place f only cause = (refl, (λ g h. absurd (cc (only g h))), cause)

pub no_test : (text : List ℕ) (f : TestFault) → ((t : Litmus) → ReadsTest text t → f ≡ of_test.NoMemory) → IsRefusedTest text f → HasNone text (test_trouble f)
no_test text of_test.NoMemory only cause = tt
no_test text f only cause = ((λ t h. absurd (cc (only t h))), cause)

pub no_space : (t : Litmus) (f : SpaceFault) → IsSpaceFault t f → IsUntold t (space_trouble f)
no_space t of_space.NoMemory is = tt
no_space t f is = is

pub no_model : (ts : List CatText) (root : Word) (es : List Entry) (f : ModelFault) → AreFiles ts es → (f ≡ of_model.NoMemory) ⊎ IsCause f es root → GiveNoModel ts root (files_trouble f)
no_model ts root es of_model.NoMemory files cause = tt
no_model ts root es f files (inl e) = absurd (cc e)
no_model ts root es f files (inr is) = (es, files, is)

-- the same, of a call's result

pub file_told : (text : List ℕ) (place : ℕ) (r : Result File CatFault) (f : CatFault) (e : ModelTrouble) → r ≡ Err f → ((g : File) → Reads text g → MatchResult r (λ h. h ≡ g) (λ d. d ≡ of_cat.NoMemory)) → IfErr r (λ d. IsRefused text d) → e ≡ text_trouble place f → IsNoFile text place e
file_told text place (Ok x) f e is only cause told = absurd (cc is)
file_told text place (Err g) f e is only cause told =
    let same : g ≡ f = cc is in
    let P : CatFault → Type 0 = λ d. IsNoFile text place (text_trouble place d) in
    let Q : ModelTrouble → Type 0 = λ d. IsNoFile text place d in
    subst Q (sym told) (subst P same (no_file text place g only cause))

pub test_told : (text : List ℕ) (r : Result Litmus TestFault) (f : TestFault) (e : TestTrouble) → r ≡ Err f → ((t : Litmus) → ReadsTest text t → MatchResult r (λ u. u ≡ t) (λ d. d ≡ of_test.NoMemory)) → IfErr r (λ d. IsRefusedTest text d) → e ≡ test_trouble f → HasNone text e
test_told text (Ok x) f e is only cause told = absurd (cc is)
test_told text (Err g) f e is only cause told =
    let same : g ≡ f = cc is in
    let P : TestFault → Type 0 = λ d. HasNone text (test_trouble d) in
    let Q : TestTrouble → Type 0 = λ d. HasNone text d in
    subst Q (sym told) (subst P same (no_test text g only cause))

pub space_told : {A : Type 0} (t u : Litmus) (r : Result A SpaceFault) (f : SpaceFault) (e : TestTrouble) → r ≡ Err f → IfErr r (IsSpaceFault u) → u ≡ t → e ≡ space_trouble f → IsUntold t e
space_told t u (Ok x) f e is fault alike told = absurd (cc is)
space_told t u (Err g) f e is fault alike told =
    let same : g ≡ f = cc is in
    let P : SpaceFault → Type 0 = λ d. IsUntold t (space_trouble d) in
    let Q : TestTrouble → Type 0 = λ d. IsUntold t d in
    let R : Litmus → Type 0 = λ x. IsSpaceFault x g in
    subst Q (sym told) (subst P same (no_space t g (subst R alike fault)))

pub model_told : (ts : List CatText) (root : Word) (es : List Entry) (f : ModelFault) (e : ModelTrouble) → AreFiles ts es → (f ≡ of_model.NoMemory) ⊎ IsCause f es root → e ≡ files_trouble f → GiveNoModel ts root e
model_told ts root es f e files cause told =
    let P : ModelTrouble → Type 0 = λ d. GiveNoModel ts root d in
    subst P (sym told) (no_model ts root es f files cause)
