-- A scheme on the way, node by node. (No statement on what a model is rests on this.)
use Rattle.std.specs.Prelude.{◌≡◌, ◌⊎◌, ◌<◌, ℕ, List, [], ◌∷◌, ◌++◌, map, length, true, Option, None, Some, cond, nat_eq, get_or}
use Rattle.std.specs.Option.{option_or}
use Rattle.std.specs.Str.{bytes_eq}
use Rattle.std.proofs.Common.{zero, suc, option_map}
use Rattle.cat_tree.specs.declared.node.Infix.{Infix}
use Rattle.cat_tree.specs.declared.node.Infix.TheVariants.{Union, Sequence, Difference, Intersection, Product}
use Rattle.cat_tree.specs.declared.node.Leaf.{Leaf}
use Rattle.cat_tree.specs.declared.node.Leaf.TheVariants as leaves
use Rattle.cat_tree.specs.declared.node.Sign.{Sign}
use Rattle.cat_tree.specs.declared.node.Sign.TheVariants.{Complement, Plus, Star, Optional, Inverse, Domain, Range, Identity}
use Rattle.cat_tree.specs.Tree.{Word, Term}
use Rattle.cat_model.specs.Schemes.{sort_of_class, FitSorts}
use Rattle.cat_model.specs.Sorts.{Sorting, sort, just_sort, with_sort, of_relation, of_set, of_both}
use Rattle.cat_model.specs.declared.schemes.Class.{Class}
use Rattle.cat_model.specs.declared.schemes.Class.TheVariants.{Known, Same}
use Rattle.cat_model.specs.declared.schemes.Classes.{Classes}
use Rattle.cat_model.specs.declared.scope.BoundName.{BoundName}
use Rattle.cat_model.specs.declared.sort.Sort.{Sort}
use Rattle.cat_model.specs.declared.sort.Sort.TheVariants.{Set, Relation}

-- the place of the last name that is x
abbrev pub place_in : List Word → Word → Option ℕ
place_in [] x = None
place_in (y ∷ ys) x = option_or (option_map suc (place_in ys x)) (cond (bytes_eq y x) (Some 0) None)

-- S with parameters above it that have these sorts
abbrev pub given_sorts : Sorting → List Word → List Sort → Sorting
given_sorts S [] js = S
given_sorts S (x ∷ xs) [] = S
given_sorts S (x ∷ xs) (j ∷ js) = given_sorts (with_sort S x (just_sort (Some j))) xs js

-- the class of a class
abbrev pub class_of : List Class → Class → Class
class_of cs (Known k) = Known k
class_of cs (Same i) = get_or cs i (Known Set)

-- b in place of parameter a
abbrev pub swapped : ℕ → Class → Class → Class
swapped a b (Known k) = Known k
swapped a b (Same i) = cond (nat_eq i a) b (Same i)

-- a class's class is its own
abbrev pub AreFlat : List Class → Type 0
AreFlat cs = (i : ℕ) → class_of cs (get_or cs i (Known Set)) ≡ get_or cs i (Known Set)

-- each parameter has the sort of its class
abbrev pub Agree : Classes → List Sort → Type 0
Agree c js = (c.possible ≡ true) × ((i : ℕ) → get_or js i Set ≡ sort_of_class js (get_or c.items.items i (Known Set)))

-- the new classes say besides that it has the sort o, which is then k, and not none
pub record Makes (old new : Classes) (js : List Sort) (o : Option Sort) (k : Sort) : Type 0 where
  pub back : Agree new js → Agree old js
  pub made : Agree old js → (Agree new js × (o ≡ Some k)) ⊎ ((Agree new js → ⊥) × (o ≡ None))

-- what a sign wants of its operand, and what it makes: nothing is wanted of a complement's
abbrev pub wanted_by : Sign → Option (Sort × Sort)
wanted_by Complement = None
wanted_by Plus = Some (Relation, Relation)
wanted_by Star = Some (Relation, Relation)
wanted_by Optional = Some (Relation, Relation)
wanted_by Inverse = Some (Relation, Relation)
wanted_by Domain = Some (Relation, Set)
wanted_by Range = Some (Relation, Set)
wanted_by Identity = Some (Set, Relation)

-- what an operator wants of its operands besides that they are alike
abbrev pub wanted_of_both : Infix → Option (Sort × Sort)
wanted_of_both Union = None
wanted_of_both Difference = None
wanted_of_both Intersection = None
wanted_of_both Sequence = Some (Relation, Relation)
wanted_of_both Product = Some (Set, Relation)

abbrev pub sort_applied : Sign → Option Sort → Option Sort
sort_applied Complement k = k
sort_applied Plus k = of_relation Relation k
sort_applied Star k = of_relation Relation k
sort_applied Optional k = of_relation Relation k
sort_applied Inverse k = of_relation Relation k
sort_applied Domain k = of_relation Set k
sort_applied Range k = of_relation Set k
sort_applied Identity k = of_set k

abbrev pub sort_joined : Infix → Option Sort → Option Sort → Option Sort
sort_joined Union k l = of_both k l
sort_joined Difference k l = of_both k l
sort_joined Intersection k l = of_both k l
sort_joined Sequence k l = of_relation Relation (of_both k l)
sort_joined Product k l = of_set (of_both k l)

-- one of them has no sort
abbrev pub HasNone : List (Option Sort) → Type 0
HasNone [] = ⊥
HasNone (None ∷ ks) = Unit {0}
HasNone (Some k ∷ ks) = HasNone ks

abbrev pub sorts_of_classes : List Sort → List Class → List (Option Sort)
sorts_of_classes js cs = map (λ c. Some (sort_of_class js c)) cs

-- where the parameters' sorts agree, these are those of the classes; else one is missing
abbrev pub Stand : Classes → List Sort → List Class → List (Option Sort) → Type 0
Stand c js cs ks = (Agree c js × (ks ≡ sorts_of_classes js cs)) ⊎ ((Agree c js → ⊥) × HasNone ks)

-- the terms that wait have the sorts of the classes that wait
abbrev pub Kept : List BoundName → List Word → Classes → List Class → List Term → Type 0
Kept ns xs c cs ts = (S : Sorting) → FitSorts ns S → (js : List Sort) → length js ≡ length xs → Stand c js cs (map (sort (given_sorts S xs js)) ts)

-- so many of the arguments have the sorts that the callee wants
abbrev pub AreTaken : List Sort → List Class → List Class → ℕ → Type 0
AreTaken js wanted cs n = (i : ℕ) → i < n → sort_of_class js (get_or cs i (Known Set)) ≡ sort_of_class js (class_of cs (get_or wanted i (Known Set)))

-- as if a name with arguments of these classes stood there
abbrev pub Names : List BoundName → List Word → Word → List Class → Classes → Classes → Class → Type 0
Names ns xs x cs old new c = (S : Sorting) → FitSorts ns S → (js : List Sort) → length js ≡ length xs → Makes old new js (given_sorts S xs js x (sorts_of_classes js cs)) (sort_of_class js c)

abbrev pub sort_of_leaf : Sorting → Leaf → Option Sort
sort_of_leaf S (leaves.Name x) = S x []
sort_of_leaf S leaves.EmptyRelation = Some Relation
sort_of_leaf S leaves.EmptySet = Some Set
sort_of_leaf S leaves.Universe = Some Set

abbrev pub IsLeaf : List BoundName → List Word → Leaf → Classes → Classes → Class → Type 0
IsLeaf ns xs l old new c = (S : Sorting) → FitSorts ns S → (js : List Sort) → length js ≡ length xs → Makes old new js (sort_of_leaf (given_sorts S xs js) l) (sort_of_class js c)

-- so many parameters, each in a class of its own
abbrev pub own_classes : ℕ → List Class
own_classes zero = []
own_classes (suc n) = own_classes n ++ Same n ∷ []
