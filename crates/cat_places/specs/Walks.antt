-- The items of a model in reading order, with includes in place. (herd7 manual, the cat language: include.)
use Rattle.std.specs.Prelude.{ℕ, zero, suc, ◌+◌, ◌==◌, nat_le, List, [], ◌∷◌, ◌++◌, Bool, Option, Some, None, length, take, slice_get, if◌then◌else◌}
use Rattle.std.specs.List.{list_any, position}
use Rattle.std.specs.Option.{is_some}
use Rattle.std.specs.Str.{bytes_eq}
use Rattle.cat_tree.specs.Tree.{Word, File, Clause, bind, bind_recursively, check, include, show, unshow}
use Rattle.cat_model.specs.Files.{built_in}
use Rattle.cat_places.specs.declared.source.Source.{Source}
use Rattle.cat_places.specs.declared.walk.Turn.{Turn}
use Rattle.cat_places.specs.declared.walk.Turn.TheVariants.{Own, BuiltIn, Into, Missing, Cycle, TooDeep}
use Rattle.cat_places.specs.declared.walk.Visit.{Visit}

-- the number of the first source of this name
abbrev pub number_of : List Source → Word → Option ℕ
number_of ss x = position (λ s. bytes_eq s.name x) ss

abbrev pub is_on : (path : List ℕ) → ℕ → Bool
is_on path s = list_any (λ t. t == s) path

-- At an include of source s, to which the path has led; at one of a name that no source has.
abbrev pub turn_into : (path : List ℕ) → ℕ → Turn
turn_into path s = if is_on path s then Cycle else if nat_le 16 (length path) then TooDeep else Into s

abbrev pub turn_beside : (path : List ℕ) → Word → Turn
turn_beside path x = if is_some (built_in x) then (if nat_le 16 (length path) then TooDeep else BuiltIn) else Missing

abbrev pub turn_at : (path : List ℕ) → Word → Option ℕ → Turn
turn_at path x (Some s) = turn_into path s
turn_at path x None = turn_beside path x

-- where reading goes on at an item
abbrev pub turn : List Source → (path : List ℕ) → Clause → Turn
turn ss path (include x) = turn_at path x (number_of ss x)
turn ss path (bind ds) = Own
turn ss path (bind_recursively bs) = Own
turn ss path (check flag negated kind a x) = Own
turn ss path (show es) = Own
turn ss path (unshow xs) = Own

abbrev pub items_in : Option File → List Clause
items_in None = []
items_in (Some f) = f.items

-- the items of source s
abbrev pub items_of : List File → ℕ → List Clause
items_of fs s = items_in (slice_get fs s)

-- the items of source s from item k on, each followed by what it brings
abbrev pub listed : List Source → (brings : Turn → List Visit) → (path : List ℕ) → (s k : ℕ) → List Clause → List Visit
listed ss brings path s k [] = []
listed ss brings path s k (i ∷ is) = record { source = s; item = k; turn = turn ss path i } ∷ (brings (turn ss path i) ++ listed ss brings path s (k + 1) is)

-- what an include brings, where so many files may still follow on the path
abbrev pub brought : List Source → List File → (depth : ℕ) → (path : List ℕ) → Turn → List Visit
brought ss fs zero path t = []
brought ss fs (suc depth) path (Into s) = listed ss (brought ss fs depth (path ++ s ∷ [])) (path ++ s ∷ []) s 0 (items_of fs s)
brought ss fs (suc depth) path Own = []
brought ss fs (suc depth) path BuiltIn = []
brought ss fs (suc depth) path Missing = []
brought ss fs (suc depth) path Cycle = []
brought ss fs (suc depth) path TooDeep = []

-- the items of source s, to which this path has led, and of what it includes
abbrev pub visits_of : List Source → List File → (depth : ℕ) → (path : List ℕ) → (s : ℕ) → List Visit
visits_of ss fs depth path s = listed ss (brought ss fs depth path) path s 0 (items_of fs s)

-- up to the first that is one too many
abbrev pub cut : List Visit → List Visit
cut vs = take 4097 vs

-- the items of the first source and of what it includes, at most 16 files on a path
abbrev pub visits : List Source → List File → List Visit
visits ss fs = cut (visits_of ss fs 15 (0 ∷ []) 0)
