-- Which sorts a function's parameters and its result have, for all arguments at once.
use Rattle.std.specs.Prelude.{◌≡◌, List, [], ◌∷◌, Bool, true, false, ◌&&◌, Option, None, Some, option_map, cond, get_or}
use Rattle.cat_tree.specs.Tree.{Word}
use Rattle.cat_model.specs.Lookups.{held_in}
use Rattle.cat_model.specs.Sorts.{Sorting, named_sorts, just_sort}
use Rattle.cat_model.specs.declared.schemes.Class.{Class}
use Rattle.cat_model.specs.declared.schemes.Class.TheVariants.{Known, Same}
use Rattle.cat_model.specs.declared.schemes.Scheme.{Scheme}
use Rattle.cat_model.specs.declared.scope.BoundName.{BoundName}
use Rattle.cat_model.specs.declared.scope.Held.{Held}
use Rattle.cat_model.specs.declared.scope.Held.TheVariants.{Value, Function}
use Rattle.cat_model.specs.declared.sort.Sort.{Sort}
use Rattle.cat_model.specs.declared.sort.Sort.TheVariants.{Set, Relation}

abbrev pub same_sort : Sort → Sort → Bool
same_sort Set Set = true
same_sort Relation Relation = true
same_sort k l = false

-- the sort of a class, where the parameters have these sorts
abbrev pub sort_of_class : List Sort → Class → Sort
sort_of_class js (Known k) = k
sort_of_class js (Same i) = get_or js i Set

-- each of these sorts is that of its class
abbrev pub agree : List Sort → List Class → List Sort → Bool
agree all [] [] = true
agree all (c ∷ cs) (j ∷ js) = same_sort j (sort_of_class all c) && agree all cs js
agree all [] (j ∷ js) = false
agree all (c ∷ cs) [] = false

-- the sorts, if there is none missing
abbrev pub all_sorts : List (Option Sort) → Option (List Sort)
all_sorts [] = Some []
all_sorts (None ∷ ks) = None
all_sorts (Some k ∷ ks) = option_map (λ js. k ∷ js) (all_sorts ks)

abbrev pub by_sorts : Scheme → Option (List Sort) → Option Sort
by_sorts s None = None
by_sorts s (Some js) = cond (s.classes.possible && agree js s.classes.items.items js) (Some (sort_of_class js s.result)) None

-- the sort of a function's body where its parameters have these sorts
abbrev pub by_scheme : Scheme → List (Option Sort) → Option Sort
by_scheme s ks = by_sorts s (all_sorts ks)

abbrev pub sort_by : Option Held → Word → List (Option Sort) → Option Sort
sort_by None x ks = named_sorts x ks
sort_by (Some (Value k)) x ks = just_sort (Some k) ks
sort_by (Some (Function s)) x ks = by_scheme s.scheme ks

-- names stand for what they are bound to
abbrev pub FitSorts : List BoundName → Sorting → Type 0
FitSorts ns S = (x : Word) (ks : List (Option Sort)) → S x ks ≡ sort_by (held_in ns x) x ks
