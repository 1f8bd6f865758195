-- Which use of its name breaks the rule of 66 (docs/MODELS.md, "Refusals of a model"): one that stands under a complement or to the right of a
-- difference, once calls are replaced. Whether it does is told by the same model with `0` in the place of all other uses of the group's names: no
-- other of them can stand where it may not be.
use Rattle.std.specs.Prelude.{◌≡◌, ℕ, ◌+◌, ◌-◌, ◌<◌, ◌⊎◌, ◌==◌, List, [], ◌∷◌, ◌++◌, Option, Some, None, take, drop, replicate, slice_get, if◌then◌else◌}
use Rattle.wb_text.specs.declared.token.Token.{Token}
use Rattle.cat_syntax.specs.Reads.{Reads}
use Rattle.cat_tree.specs.Tree.{File, Bound, Clause, bind, bind_recursively, check, include, show, unshow}
use Rattle.cat_model.specs.Faults.{IsCause}
use Rattle.cat_model.specs.declared.fault.ModelFault.{ModelFault}
use Rattle.cat_places.specs.Blame.{alone, items_put, main}
use Rattle.cat_places.specs.Own.{uses}
use Rattle.cat_places.specs.declared.walk.Visit.{Visit}

-- the uses of the names that these bind, and of those that an item binds as a group

abbrev pub uses_of_all : List ℕ → List Token → List Bound → List Token
uses_of_all text own [] = []
uses_of_all text own (b ∷ bs) = uses text b.name own ++ uses_of_all text own bs

abbrev pub uses_of_group : List ℕ → List Token → Option Clause → List Token
uses_of_group text own None = []
uses_of_group text own (Some (bind_recursively bs)) = uses_of_all text own bs
uses_of_group text own (Some (bind ds)) = []
uses_of_group text own (Some (check flag negated kind a x)) = []
uses_of_group text own (Some (include x)) = []
uses_of_group text own (Some (show es)) = []
uses_of_group text own (Some (unshow xs)) = []

-- the text with `0`, and blanks behind it, in the place of a token, in that of a token other than t, and in that of all of these other than t

abbrev pub blanked : List ℕ → Token → List ℕ
blanked text u = take u.from text ++ 48 ∷ (replicate (u.to - (u.from + 1)) 32 ++ drop u.to text)

abbrev pub blanked_but : (t : Token) → List ℕ → Token → List ℕ
blanked_but t text u = if u.from == t.from then text else blanked text u

abbrev pub with_only : List ℕ → List Token → (t : Token) → List ℕ
with_only text [] t = text
with_only text (u ∷ us) t = with_only (blanked_but t text u) us t

-- Behind what these visits give, item k of the file that this text reads as breaks a rule.
pub record IsRefused (fs : List File) (before : List Visit) (k : ℕ) (text : List ℕ) : Type 0 where
  pub file : File
  pub reads : Reads text file
  pub item : Clause
  pub at : slice_get file.items k ≡ Some item
  pub fault : ModelFault
  pub broken : IsCause fault (alone (items_put fs before ++ item ∷ [])) main

-- A rule is broken with t as the only use of a name of the group, whose uses are these.
abbrev pub IsDenied : List File → List Visit → ℕ → List ℕ → (uses : List Token) → (t : Token) → Type 0
IsDenied fs before k text us t = IsRefused fs before k (with_only text us t)

-- none of the uses ts of a name is denied
abbrev pub NoneDenied : List File → List Visit → ℕ → List ℕ → (uses ts : List Token) → Type 0
NoneDenied fs before k text us ts = (j : ℕ) (t : Token) → slice_get ts j ≡ Some t → ¬ IsDenied fs before k text us t

-- of the uses ts of a name that of number n is denied, and none before it
pub record IsFirstDenied (fs : List File) (before : List Visit) (k : ℕ) (text : List ℕ) (us ts : List Token) (n : ℕ) : Type 0 where
  pub token : Token
  pub at : slice_get ts n ≡ Some token
  pub denied : IsDenied fs before k text us token
  pub first : (j : ℕ) (t : Token) → j < n → slice_get ts j ≡ Some t → ¬ IsDenied fs before k text us t

-- the first that is denied, or where none is, the first of all
abbrev pub IsToldUse : List File → List Visit → ℕ → List ℕ → (uses ts : List Token) → Option Token → Type 0
IsToldUse fs before k text us ts o = ((n : ℕ) × IsFirstDenied fs before k text us ts n × (o ≡ slice_get ts n)) ⊎ (NoneDenied fs before k text us ts × (o ≡ slice_get ts 0))
