-- How the code counts what checks and bindings come to, and what it knows behind items. (No statement on what a model is rests on this.)
use Rattle.std.specs.Prelude.{◌≡◌, ℕ, ◌+◌, ◌<◌, ◌≤◌, ◌⊎◌, List, [], ◌∷◌, ◌++◌, Option, None, Some}
use Rattle.cat_tree.specs.Tree.{Word, Clause}
use Rattle.cat_model.specs.Behind.{behind, first, Fit}
use Rattle.cat_model.specs.Denials.{first_marks}
use Rattle.cat_model.specs.Names.{AreBound}
use Rattle.cat_model.specs.Scopes.{Charge, charges, total_nodes, AreFew, AreOrdered}
use Rattle.cat_model.specs.Sorts.{first_sorts}
use Rattle.cat_model.specs.declared.scope.BoundName.{BoundName}

-- the total with one more, where it isn't too much
abbrev pub IsCharged : Option ℕ → ℕ → Charge → Type 0
IsCharged None n c = (65536 < n + c.nodes) ⊎ (64 < c.depth)
IsCharged (Some m) n c = (m ≡ n + c.nodes) × ((m ≤ 65536) × (c.depth ≤ 64))

-- these come to n nodes in all, and aren't too much
pub record IsCount (n : ℕ) (cs : List Charge) : Type 0 where
  pub total : n ≡ total_nodes cs
  pub few : AreFew cs

-- behind cs and those of all that aren't left
pub record CountsUpTo (n : ℕ) (cs left all : List Charge) : Type 0 where
  pub done : List Charge
  pub count : IsCount n (cs ++ done)
  pub whole : done ++ left ≡ all

-- with what is named w the charges ds, behind cs, first come to too much
pub record IsOver (cs ds : List Charge) (w : Word) : Type 0 where
  pub before : List Charge
  pub at : Charge
  pub after : List Charge
  pub split : ds ≡ before ++ at ∷ after
  pub name : at.name ≡ w
  pub few : AreFew (cs ++ before)
  pub large : ¬ AreFew ((cs ++ before) ++ at ∷ [])

-- behind these items, which are in order, the names of the code stand for what they are bound to, and n nodes are counted
pub record Stands (ns : List BoundName) (n : ℕ) (front : List Clause) : Type 0 where
  pub fit : Fit ns (behind first front)
  pub count : IsCount n (charges front)
  pub bound : AreBound [] front
  pub ordered : AreOrdered first_sorts first_marks front
