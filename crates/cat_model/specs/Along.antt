-- Names of a term, node by node. (No statement on what a model is rests on this.)
use Rattle.std.specs.Prelude.{◌≡◌, List, [], ◌∷◌, Option, None, Bool, ◌||◌, not, option_map, find}
use Rattle.std.specs.Borrow.{Bor}
use Rattle.std.specs.Option.{option_or}
use Rattle.cat_tree.specs.Tree.{Word, Term}
use Rattle.cat_model.specs.Lookups.{is_known}
use Rattle.cat_model.specs.Names.{names, is_among}
use Rattle.cat_model.specs.declared.scope.BoundName.{BoundName}

-- x is neither a parameter nor bound
abbrev pub is_loose : List BoundName → List Word → Word → Bool
is_loose ns ps x = not (is_among ps x || is_known ns x)

-- the first name of the term, in reading order, that is neither a parameter nor bound
abbrev pub IsFirstLoose : List BoundName → List Word → Option (Bor Word) → Term → Type 0
IsFirstLoose ns ps o t = option_map (λ x. x.now) o ≡ find (is_loose ns ps) (names t)

abbrev pub first_some : {X : Type 0} → List (Option X) → Option X
first_some [] = None
first_some (o ∷ os) = option_or o (first_some os)

-- R of each two at one place, in lists of one length
abbrev pub ForEach : {A X : Type 0} → (A → X → Type 0) → List A → List X → Type 0
ForEach R [] [] = Unit {0}
ForEach R [] (x ∷ xs) = ⊥
ForEach R (a ∷ as') [] = ⊥
ForEach R (a ∷ as') (x ∷ xs) = R a x × ForEach R as' xs
