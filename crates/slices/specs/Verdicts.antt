-- When a verdict is right for its test under a memory model.
-- (herd7 manual, the cat language: checks and flags; Alglave, Maranget and Tautschnig, Herding cats, 2014, section 4.)
use Rattle.std.specs.Prelude.{◌≡◌, ℕ, ◌<◌, ◌⊎◌, List, [], ◌∷◌, not, count_by}
use Rattle.cat_eval.specs.Judging.{Allowed, Raised}
use Rattle.cat_tree.specs.Tree.{Clause}
use Rattle.events.specs.Executions.{GraphValue}
use Rattle.listings.specs.Lists.{IsIn, Lists}
use Rattle.litmus_tree.specs.Tree.{Litmus, Word}
use Rattle.conditions.specs.States.{AreObserved}
use Rattle.candidates.specs.Executions.{IsExecution}
use Rattle.slices.specs.Finals.{obs, has}
use Rattle.slices.specs.Findings.{FindingValue}

-- the first place where they differ decides
abbrev pub Precedes : List ℕ → List ℕ → Type 0
Precedes [] [] = ⊥
Precedes [] (v ∷ vs) = Unit {0}
Precedes (u ∷ us) [] = ⊥
Precedes (u ∷ us) (v ∷ vs) = (u < v) ⊎ ((u ≡ v) × Precedes us vs)

-- each precedes the next
abbrev pub AreSorted : List (List ℕ) → Type 0
AreSorted [] = Unit {0}
AreSorted (s ∷ []) = Unit {0}
AreSorted (s ∷ r ∷ rest) = Precedes s r × AreSorted (r ∷ rest)

-- x is an execution of the test, and a model of these items allows it
abbrev pub IsAllowed : Litmus → List Clause → GraphValue → Type 0
IsAllowed t items x = IsExecution t x × Allowed items x

-- one of the executions raises this name
abbrev pub IsRaised : List Clause → List GraphValue → Word → Type 0
IsRaised items xs name = (x : GraphValue) × IsIn x xs × Raised items x name

-- The finding is right for this list of executions of the test under a model of these items.
pub record Tells (t : Litmus) (items : List Clause) (xs : List GraphValue) (v : FindingValue) : Type 0 where
  pub name : v.name ≡ t.name
  pub kind : v.kind ≡ t.condition.kind
  pub formula : v.formula ≡ t.condition.formula
  pub places : AreObserved t.condition t.listed v.places
  pub positive : v.positive ≡ count_by (has t v.places) xs
  pub negative : v.negative ≡ count_by (λ x. not (has t v.places x)) xs
  pub states : Lists (λ s. (x : GraphValue) × IsIn x xs × (s ≡ obs t v.places x)) v.states
  pub sorted : AreSorted v.states
  pub flags : Lists (IsRaised items xs) v.flags
  pub in_order : AreSorted v.flags

-- The finding is right for all allowed executions of the test, each counted once.
abbrev pub IsVerdict : Litmus → List Clause → FindingValue → Type 0
IsVerdict t items v = (xs : List GraphValue) × Lists (IsAllowed t items) xs × Tells t items xs v
