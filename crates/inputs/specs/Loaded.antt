-- The models of a run, each with the texts that it is made of.
use Rattle.std.specs.Prelude.{ℕ, ◌≡◌, ◌++◌, List, [], ◌∷◌}
use Rattle.std.specs.Str.{IsUtf8}
use Rattle.cat_tree.specs.Tree.{Word}
use Rattle.cat_model.specs.Models.{Assembly}
use Rattle.suite.specs.Digests.{digests_text}
use Rattle.suite.specs.Models.{GiveModel}
use Rattle.suite.specs.declared.case.Case.{Case}
use Rattle.suite.specs.declared.loading.CatText.{CatText}

-- of some models the words that named them, and the digests of the texts that each is made of
pub record Labels : Type 0 where
  pub names : List (List ℕ)
  pub digests : List (List ℕ)

-- the model of some texts, and the digests of just these
pub record IsLoaded (model : Assembly) (digests : List ℕ) : Type 0 where
  pub texts : List CatText
  pub root : Word
  pub given : GiveModel texts root model
  pub told : digests ≡ digests_text texts

-- place by place a model that was loaded, its name and its digests
pub data AreLoaded : List Assembly → List (List ℕ) → List (List ℕ) → Type 0 where
  nothing : AreLoaded [] [] []
  behind : {models : List Assembly} {names digests : List (List ℕ)} (model : Assembly) (name told : List ℕ)
      → AreLoaded models names digests → IsLoaded model told
      → AreLoaded (models ++ model ∷ []) (names ++ name ∷ []) (digests ++ told ∷ [])

-- one model more, which this word names
pub record IsOneMore (word : List ℕ) (old new : Labels) : Type 0 where
  pub told : List ℕ
  pub names_are : new.names ≡ old.names ++ word ∷ []
  pub digests_are : new.digests ≡ old.digests ++ told ∷ []

-- a test under a model: the path, and what names the model and tells its texts, where that is text
pub record IsCase (path name told : List ℕ) (c : Case) : Type 0 where
  pub path_is : c.path.now ≡ path
  pub model_is : IsUtf8 name → c.model.now ≡ name
  pub digests_is : IsUtf8 told → c.digests.now ≡ told

-- a test under each of some models, in their order
pub data AreCases (path : List ℕ) : List (List ℕ) → List (List ℕ) → List Case → Type 0 where
  no_case : AreCases path [] [] []
  one_more : {names digests : List (List ℕ)} {cases : List Case} (name told : List ℕ) (c : Case)
      → AreCases path names digests cases → IsCase path name told c
      → AreCases path (names ++ name ∷ []) (digests ++ told ∷ []) (cases ++ c ∷ [])
