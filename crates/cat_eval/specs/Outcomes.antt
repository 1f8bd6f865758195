-- What the items of a model come to in an execution with n events, where E tells what names stand for.
use Rattle.std.specs.Prelude.{ℕ, suc, ◌+◌, ◌-◌, ◌≤◌, ◌↔◌, List, [], ◌∷◌, length, IsTrue, Option, None, Some}
use Rattle.cat_tree.specs.Tree.{Bound, values_in, Clause, bind, bind_recursively, check}
use Rattle.cat_model.specs.Scopes.{Takes}
use Rattle.cat_eval.specs.declared.valuing.Outcome.{Outcome}
use Rattle.cat_eval.specs.declared.value.Entry.{Entry}
use Rattle.cat_eval.specs.declared.value.Value.{Value}
use Rattle.cat_eval.specs.Code.{at}
use Rattle.cat_eval.specs.Judging.{Binds, Behind, Permits}
use Rattle.cat_eval.specs.Meaning.{Environment, Means}
use Rattle.cat_eval.specs.Steps.{sort_of}

-- the value of a check's expression, of a sort that the check takes; no other item has a value
abbrev pub IsChecked : ℕ → Environment → Clause → Option Value → Type 0
IsChecked n E (check flag negated kind a alias) (Some v) = Means n E a v × Takes kind (sort_of v)
IsChecked n E (check flag negated kind a alias) None = ⊥
IsChecked n E item (Some v) = ⊥
IsChecked n E item None = Unit {0}

-- the values that the item binds, that of a check, and whether it forbids nothing
pub record IsOutcome (n : ℕ) (E : List ℕ → List (Value → Type 0) → Value → Type 0) (item : Clause) (o : Outcome) : Type 0 where
  pub binds : Binds n E item o.bound.items
  pub checked : IsChecked n E item o.checked
  pub permits : IsTrue o.permits ↔ Permits n E item

-- each item comes to the outcome at its place, the later ones under the bindings of the earlier ones
abbrev pub AreOutcomes : ℕ → Environment → List Clause → List Outcome → Type 0
AreOutcomes n E [] [] = Unit {0}
AreOutcomes n E [] (o ∷ os) = ⊥
AreOutcomes n E (item ∷ items) [] = ⊥
AreOutcomes n E (item ∷ items) (o ∷ os) = IsOutcome n E item o × AreOutcomes n (Behind n E item o.bound.items) items os

-- No statement on what items come to rests on what follows.

-- the bindings of an item that aren't functions
abbrev pub bounds_of : Clause → List Bound
bounds_of (bind ds) = values_in ds
bounds_of (bind_recursively bs) = bs
bounds_of item = []

-- where the first of their values lies, if the item's steps are those from one place up to another
abbrev pub bounds_from : (from to : ℕ) → Clause → ℕ
bounds_from from to (bind ds) = to - length (values_in ds)
bounds_from from to item = from

-- the names of bindings with the values that lie one behind another from place k on
abbrev pub entries_from : List Bound → ℕ → List Value → List Entry
entries_from [] k vs = []
entries_from (b ∷ bs) k vs = record { name = b.name; value = at vs k } ∷ entries_from bs (suc k) vs

-- the last of the item's values, if it is a check
abbrev pub value_before : (to : ℕ) → Clause → List Value → Option Value
value_before to (check flag negated kind a alias) vs = Some (at vs (to - 1))
value_before to item vs = None

-- there are so many values
abbrev pub HasRoom : (from to count : ℕ) → Clause → Type 0
HasRoom from to count (bind ds) = (length (values_in ds) ≤ to) × (to ≤ count)
HasRoom from to count (bind_recursively bs) = from + length bs ≤ count
HasRoom from to count (check flag negated kind a alias) = (1 ≤ to) × (to ≤ count)
HasRoom from to count item = Unit {0}
