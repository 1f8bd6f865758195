-- Which item of a model is to blame for a fault: the first in reading order with which the fault's rule is broken (docs/MODELS.md, "Refusals of a model").
use Rattle.std.specs.Prelude.{◌≡◌, ℕ, ◌+◌, ◌<◌, nat_le, List, [], ◌∷◌, ◌++◌, Bool, true, false, ◌&&◌, ◌||◌, Option, Some, None, length, take, slice_get, get_or, codes}
use Rattle.std.specs.Str.{bytes_eq}
use Rattle.cat_tree.specs.Tree.{Word, File, Clause, bind, bind_recursively, check, include, show, unshow}
use Rattle.cat_model.specs.Faults.{IsCause}
use Rattle.cat_model.specs.declared.fault.ModelFault.{ModelFault}
use Rattle.cat_model.specs.declared.fault.ModelFault.TheVariants.{NoCat, NoInclude, IncludeCycle, Unbound, WrongSort, NotMonotone, FlagWithoutName, ModelTooLarge, CallsTooLarge, NoMemory}
use Rattle.cat_model.specs.declared.files.Entry.{Entry}
use Rattle.cat_places.specs.Walks.{items_of}
use Rattle.cat_places.specs.contracts.walk.TurnPartialEq.TheImpl.{ghosts as turn_equality}
use Rattle.cat_places.specs.declared.walk.Turn.{Turn}
use Rattle.cat_places.specs.declared.walk.Turn.TheVariants.{Own, BuiltIn, Missing, Cycle, TooDeep}
use Rattle.cat_places.specs.declared.walk.Visit.{Visit}

-- the item of a visit
abbrev pub item_of : List File → Visit → Option Clause
item_of fs v = slice_get (items_of fs v.source) v.item

abbrev pub is_include_of : Word → Clause → Bool
is_include_of x (include y) = bytes_eq y x
is_include_of x (bind ds) = false
is_include_of x (bind_recursively bs) = false
is_include_of x (check flag negated kind a y) = false
is_include_of x (show es) = false
is_include_of x (unshow xs) = false

abbrev pub includes_in : Word → Option Clause → Bool
includes_in x None = false
includes_in x (Some i) = is_include_of x i

-- a visit is an include of this name, and reading goes on so
abbrev pub includes : List File → Word → Turn → Visit → Bool
includes fs x t v = turn_equality.eq v.turn t && includes_in x (item_of fs v)

-- 62, 63 and 68 are broken at the visit of number k: by an include of what isn't there, or of what is on the path; by an include of the
-- seventeenth file on a path, or by the 4,097th item
abbrev pub stops : List File → ModelFault → (k : ℕ) → Visit → Bool
stops fs (NoInclude x) k v = includes fs x Missing v
stops fs (IncludeCycle x) k v = includes fs x Cycle v
stops fs ModelTooLarge k v = turn_equality.eq v.turn TooDeep || nat_le 4096 k
stops fs (NoCat x) k v = false
stops fs (Unbound x) k v = false
stops fs (WrongSort x) k v = false
stops fs (NotMonotone x) k v = false
stops fs FlagWithoutName k v = false
stops fs (CallsTooLarge x) k v = false
stops fs NoMemory k v = false

-- no visit before that of number n stops reading for this fault
abbrev pub NoneStops : List File → ModelFault → List Visit → (n : ℕ) → Type 0
NoneStops fs e vs n = (j : ℕ) (d : Visit) → j < n → stops fs e j (get_or vs j d) ≡ false

-- the visit of number k is the first that stops reading for this fault
pub record IsFirstStop (fs : List File) (e : ModelFault) (vs : List Visit) (k : ℕ) : Type 0 where
  pub within : k < length vs
  pub stops : (d : Visit) → stops fs e k (get_or vs k d) ≡ true
  pub first : NoneStops fs e vs k

-- The items of visits, where those of sources stand in the place of their includes.

abbrev pub put_as : Turn → Option Clause → List Clause
put_as Own (Some i) = i ∷ []
put_as BuiltIn (Some i) = i ∷ []
put_as t i = []

abbrev pub items_put : List File → List Visit → List Clause
items_put fs [] = []
items_put fs (v ∷ vs) = put_as v.turn (item_of fs v) ++ items_put fs vs

-- the name of a file of its own
abbrev pub main : Word
main = codes "main.cat"

-- these items as a file of its own
abbrev pub alone : List Clause → List Entry
alone is = record { name = main; version = 1; file = Some (record { title = None; items = is }) } ∷ []

-- the first n visits break the fault's rule, taken as a file of their own
abbrev pub IsBroken : List File → List Visit → (n : ℕ) → ModelFault → Type 0
IsBroken fs vs n e = IsCause e (alone (items_put fs (take n vs))) main

-- none of the first n visits is one up to which a rule is broken
abbrev pub NoneBroken : List File → List Visit → (n : ℕ) → Type 0
NoneBroken fs vs n = (j : ℕ) → j < n → (e : ModelFault) → ¬ IsBroken fs vs (j + 1) e

-- up to the visit of number k this fault's rule is broken, and up to no earlier one any rule
pub record IsFirstBroken (fs : List File) (e : ModelFault) (vs : List Visit) (k : ℕ) : Type 0 where
  pub within : k < length vs
  pub broken : IsBroken fs vs (k + 1) e
  pub first : NoneBroken fs vs k

-- the visit of number k is to blame for the fault
abbrev pub IsBlamed : List File → ModelFault → List Visit → (k : ℕ) → Type 0
IsBlamed fs (NoCat x) vs k = ⊥
IsBlamed fs NoMemory vs k = ⊥
IsBlamed fs (NoInclude x) vs k = IsFirstStop fs (NoInclude x) vs k
IsBlamed fs (IncludeCycle x) vs k = IsFirstStop fs (IncludeCycle x) vs k
IsBlamed fs ModelTooLarge vs k = IsFirstStop fs ModelTooLarge vs k
IsBlamed fs (Unbound x) vs k = IsFirstBroken fs (Unbound x) vs k
IsBlamed fs (WrongSort x) vs k = IsFirstBroken fs (WrongSort x) vs k
IsBlamed fs (NotMonotone x) vs k = IsFirstBroken fs (NotMonotone x) vs k
IsBlamed fs FlagWithoutName vs k = IsFirstBroken fs FlagWithoutName vs k
IsBlamed fs (CallsTooLarge x) vs k = IsFirstBroken fs (CallsTooLarge x) vs k
