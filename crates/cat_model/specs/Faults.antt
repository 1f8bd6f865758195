-- When a model is refused.
use Rattle.std.specs.Prelude.{◌≡◌, ◌<◌, ◌⊎◌, List, [], ◌∷◌, ◌++◌, ◌≢◌, true, false, None, Some, length, IsSome}
use Rattle.std.specs.List.{Contains}
use Rattle.cat_tree.specs.Tree.{Word, Bound, values_in, Clause, bind, bind_recursively, check, include, show, unshow}
use Rattle.cat_model.specs.Closure.{IsPath, IsClosure, root_count}
use Rattle.cat_model.specs.Denials.{Marking, marks, marks_past, first_marks, grouped, denied_in}
use Rattle.cat_model.specs.Files.{file_of}
use Rattle.cat_model.specs.Names.{IsNamed, IsBound, is_bound_behind}
use Rattle.cat_model.specs.Sorts.{Sorting, sort, recursive, sorts_behind, first_sorts}
use Rattle.cat_model.specs.Scopes.{IsTestable, AreOrdered, Charge, charges, AreFew, word_of}
use Rattle.cat_model.specs.declared.fault.ModelFault.{ModelFault}
use Rattle.cat_model.specs.declared.fault.ModelFault.TheVariants.{NoCat, NoInclude, IncludeCycle, Unbound, WrongSort, NotMonotone, FlagWithoutName, ModelTooLarge, CallsTooLarge, NoMemory}
use Rattle.cat_model.specs.declared.files.Entry.{Entry}
use Rattle.cat_model.specs.declared.model.FileVersion.{FileVersion}
use Rattle.cat_model.specs.declared.sort.Sort.TheVariants.{Relation}

-- name x of the item is not bound
abbrev pub IsUnbound : List Clause → Clause → Word → Type 0
IsUnbound front i x = IsNamed i x × (is_bound_behind front x ≡ false)

-- with what is named w, a binding or a check, these items first come to too much
pub record IsTooLarge (items : List Clause) (w : Word) : Type 0 where
  pub before : List Charge
  pub at : Charge
  pub behind : List Charge
  pub split : charges items ≡ before ++ at ∷ behind
  pub name : at.name ≡ w
  pub few : AreFew before
  pub large : ¬ AreFew (before ++ at ∷ [])

-- what is named w, a binding or a check, has no sort, or not the sort that it must have
abbrev pub IsMissorted : Sorting → Clause → Word → Type 0
IsMissorted S (bind ds) w = (b : Bound) × Contains (values_in ds) b × (w ≡ b.name) × (sort S b.value ≡ None)
IsMissorted S (bind_recursively bs) w = (b : Bound) × Contains bs b × (w ≡ b.name) × (sort (recursive bs S) b.value ≢ Some Relation)
IsMissorted S (check flag negated kind a x) w = (w ≡ word_of kind) × (¬ IsTestable S kind a)
IsMissorted S (include x) w = ⊥
IsMissorted S (show ss) w = ⊥
IsMissorted S (unshow xs) w = ⊥

abbrev pub marks_behind : Marking → List Clause → Marking
marks_behind M [] = M
marks_behind M (i ∷ is) = marks_behind (marks_past M i) is

-- name x of a recursive group is denied in the group, once calls are replaced
abbrev pub IsDenied : Marking → Clause → Word → Type 0
IsDenied M (bind_recursively bs) x = (b : Bound) × Contains bs b × Contains (denied_in (marks (grouped bs M) b.value)) x
IsDenied M (bind ds) x = ⊥
IsDenied M (check flag negated kind a x) y = ⊥
IsDenied M (include x) y = ⊥
IsDenied M (show ss) x = ⊥
IsDenied M (unshow xs) x = ⊥

-- a flag without a name
abbrev pub IsNameless : Clause → Type 0
IsNameless (check flag negated kind a x) = (flag ≡ true) × (x ≡ None)
IsNameless (bind ds) = ⊥
IsNameless (bind_recursively bs) = ⊥
IsNameless (include x) = ⊥
IsNameless (show ss) = ⊥
IsNameless (unshow xs) = ⊥

-- what is wrong with an item behind others that are in order
abbrev pub IsItemFault : ModelFault → List Clause → Clause → Type 0
IsItemFault (Unbound x) front i = IsUnbound front i x
IsItemFault (CallsTooLarge w) front i = IsBound front i × IsTooLarge (front ++ i ∷ []) w
IsItemFault (WrongSort w) front i = IsBound front i × AreFew (charges (front ++ i ∷ [])) × IsMissorted (sorts_behind first_sorts front) i w
IsItemFault (NotMonotone x) front i = IsDenied (marks_behind first_marks front) i x
IsItemFault FlagWithoutName front i = IsNameless i
IsItemFault (NoCat x) front i = ⊥
IsItemFault (NoInclude x) front i = ⊥
IsItemFault (IncludeCycle x) front i = ⊥
IsItemFault ModelTooLarge front i = ⊥
IsItemFault NoMemory front i = ⊥

-- behind items that are in order stands one that is not
pub record IsFaulty (e : ModelFault) (items : List Clause) : Type 0 where
  pub front : List Clause
  pub item : Clause
  pub rest : List Clause
  pub split : items ≡ front ++ item ∷ rest
  pub ordered : AreOrdered first_sorts first_marks front
  pub fault : IsItemFault e front item

-- what is wrong with the paths and the count
abbrev pub IsAstray : ModelFault → List Entry → Word → Type 0
IsAstray (NoCat x) es root = (x ≡ root) × (file_of root es ≡ None)
IsAstray (NoInclude x) es root = (y : Word) × (path : List Word) × IsPath es root (x ∷ y ∷ path) × (file_of x es ≡ None)
IsAstray (IncludeCycle x) es root = (path : List Word) × IsPath es root (x ∷ path) × Contains path x
IsAstray ModelTooLarge es root =
    ((x : Word) × (path : List Word) × IsPath es root (x ∷ path) × (16 < length (x ∷ path)) × IsSome (file_of x es)) ⊎ (4096 < root_count es root)
IsAstray (Unbound x) es root = ⊥
IsAstray (WrongSort w) es root = ⊥
IsAstray (NotMonotone x) es root = ⊥
IsAstray (CallsTooLarge w) es root = ⊥
IsAstray FlagWithoutName es root = ⊥
IsAstray NoMemory es root = ⊥

-- the fault's cause stands: on the paths from the root, or in the items that they give
abbrev pub IsCause : ModelFault → List Entry → Word → Type 0
IsCause e es root = IsAstray e es root ⊎ ((items : List Clause) × (files : List FileVersion) × IsClosure es root items files × IsFaulty e items)
