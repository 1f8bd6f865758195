-- How what is found grows. What is found of some executions and what is found of others are added up: the counts are added, and the states and
-- the flags are united.
use Rattle.std.specs.Prelude.{◌≡◌, ◌+◌, ◌↔◌, ◌⊎◌, ℕ, List, [], ◌∷◌, ◌++◌, Bool, if◌then◌else◌}
use Rattle.cat_tree.specs.Tree.{Clause}
use Rattle.conditions.specs.States.{bindings, holds_in}
use Rattle.events.specs.Executions.{GraphValue}
use Rattle.listings.specs.Lists.{IsIn}
use Rattle.litmus_tree.specs.Tree.{Litmus, Word}
use Rattle.slices.specs.Findings.{FindingValue}
use Rattle.slices.specs.Verdicts.{AreSorted, Tells}

-- zs has what xs or ys has, and is in order if xs is
pub record IsUnion (xs ys zs : List (List ℕ)) : Type 0 where
  pub members : (s : List ℕ) → IsIn s zs ↔ (IsIn s xs ⊎ IsIn s ys)
  pub sorted : AreSorted xs → AreSorted zs

-- zs has what xs has, and ys, of which xs has none
pub record IsGrownBy (xs ys zs : List (List ℕ)) : Type 0 where
  pub whole : IsUnion xs ys zs
  pub new : (s : List ℕ) → IsIn s ys → ¬ IsIn s xs

-- zs has what xs has and ys hasn't, and is in order
pub record IsWithout (xs ys zs : List (List ℕ)) : Type 0 where
  pub members : (s : List ℕ) → IsIn s zs ↔ (IsIn s xs × (¬ IsIn s ys))
  pub sorted : AreSorted zs

-- nothing found, of the same test at the same places
abbrev pub nothing_of : FindingValue → FindingValue
nothing_of v = record v { positive = 0; negative = 0; states = []; flags = [] }

-- What v and w say is added up.
pub record IsSum (v w sum : FindingValue) : Type 0 where
  pub same : nothing_of sum ≡ nothing_of v
  pub positive : sum.positive ≡ v.positive + w.positive
  pub negative : sum.negative ≡ v.negative + w.negative
  pub states : IsUnion v.states w.states sum.states
  pub flags : IsUnion v.flags w.flags sum.flags

-- So the sum is right for all executions for which one of the two is.
abbrev pub AddsUp : FindingValue → FindingValue → FindingValue → Type 0
AddsUp v w sum = (t : Litmus) (items : List Clause) (xs ys : List GraphValue) → Tells t items xs v → Tells t items ys w → Tells t items (ys ++ xs) sum

-- whether a final state, at the places of v, has the proposition
abbrev pub state_has : FindingValue → List ℕ → Bool
state_has v state = holds_in (bindings v.places state) v.formula

-- a final state that is found so many times, with the names of these flags
abbrev pub of_state : FindingValue → List ℕ → ℕ → List Word → FindingValue
of_state v state times flags = record v { positive = if state_has v state then times else 0; negative = if state_has v state then 0 else times; states = state ∷ []; flags = flags }

-- the names of flags
abbrev pub of_flags : FindingValue → List Word → FindingValue
of_flags v flags = record v { positive = 0; negative = 0; states = []; flags = flags }
