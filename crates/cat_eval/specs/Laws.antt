-- Laws of the definitions.
use Rattle.std.specs.Prelude.{◌≡◌, ◌↔◌, ℕ, List, [], ◌∷◌}
use Rattle.cat_tree.specs.Tree.{Word, Term, Bound, Clause}
use Rattle.events.specs.Executions.{GraphValue}
use Rattle.events.specs.Named.{event_count}
use Rattle.events.specs.Structures.{sourced_of}
use Rattle.cat_eval.specs.declared.value.Value.{Value}
use Rattle.cat_eval.specs.declared.value.Entry.{Entry}
use Rattle.cat_eval.specs.Meaning.{Environment, Means, IsLeast}
use Rattle.cat_eval.specs.Judging.{Behind, First, Allowed, Raised}

-- what names stand for behind items, the values that each binds being these
abbrev pub BehindAll : ℕ → Environment → List Clause → List (List Entry) → Environment
BehindAll n E [] ess = E
BehindAll n E (item ∷ items) [] = BehindAll n (Behind n E item []) items []
BehindAll n E (item ∷ items) (es ∷ ess) = BehindAll n (Behind n E item es) items ess

-- An expression has at most one value, whatever is bound.
abbrev pub OneValue : Type 0
OneValue = (g : GraphValue) (items : List Clause) (ess : List (List Entry)) (a : Term) (v w : Value) →
    Means (event_count g) (BehindAll (event_count g) (First g) items ess) a v → Means (event_count g) (BehindAll (event_count g) (First g) items ess) a w → v ≡ w

-- A `let rec` binds at most one list of relations.
abbrev pub OneLeast : Type 0
OneLeast = (g : GraphValue) (items : List Clause) (ess : List (List Entry)) (bs : List Bound) (es fs : List Entry) →
    IsLeast (event_count g) (BehindAll (event_count g) (First g) items ess) bs es → IsLeast (event_count g) (BehindAll (event_count g) (First g) items ess) bs fs → es ≡ fs

-- A model says the same of executions that differ in their values alone.
abbrev pub ValuesDontMatter : Type 0
ValuesDontMatter = (items : List Clause) (g h : GraphValue) → sourced_of g ≡ sourced_of h → g.co ≡ h.co →
    (Allowed items g ↔ Allowed items h) × ((x : Word) → Raised items g x ↔ Raised items h x)
