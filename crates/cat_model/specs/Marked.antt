-- Which parameters stand in a function's body once calls are replaced, and which of them are denied.
use Rattle.std.specs.Prelude.{◌≡◌, ◌↔◌, ◌<◌, ◌≤◌, ℕ, List, [], ◌∷◌, ◌++◌, map, length, Bool, true, false, cond, ◌||◌, Option, None, Some, get_or}
use Rattle.std.specs.List.{Contains}
use Rattle.cat_tree.specs.declared.node.Infix.{Infix}
use Rattle.cat_tree.specs.declared.node.Infix.TheVariants.{Difference}
use Rattle.cat_tree.specs.declared.node.Sign.{Sign}
use Rattle.cat_tree.specs.declared.node.Sign.TheVariants.{Complement}
use Rattle.cat_tree.specs.Tree.{Word, Term}
use Rattle.cat_model.specs.Denials.{Mark, Marking, marks, with_mark}
use Rattle.cat_model.specs.Classing.{place_in}
use Rattle.cat_model.specs.Lookups.{held_in}
use Rattle.cat_model.specs.declared.denials.Marked.{Marked}
use Rattle.cat_model.specs.declared.denials.Once.{Once}
use Rattle.cat_model.specs.declared.denials.Trace.{Trace}
use Rattle.cat_model.specs.declared.scope.BoundName.{BoundName}
use Rattle.cat_model.specs.declared.scope.Held.{Held}
use Rattle.cat_model.specs.declared.scope.Held.TheVariants.{Value, Function}

abbrev pub mark_if : Bool → Mark → Mark
mark_if d m = record { name = m.name; denied = d || m.denied }

-- the mark comes by one of these traces from what stands in the parameters
pub record Comes (ts : List Trace) (ms : List (List Mark)) (m : Mark) : Type 0 where
  pub trace : Trace
  pub among : Contains ts trace
  pub inner : Mark
  pub there : Contains (get_or ms trace.place []) inner
  pub is : m ≡ mark_if trace.denied inner

-- what stands in a function's body, where this stands in its arguments
abbrev pub IsMarked : Marked → (List (List Mark) → List Mark) → Type 0
IsMarked s F = (ms : List (List Mark)) (m : Mark) → Contains (F ms) m ↔ ((s.count ≤ length ms) × Comes s.traces.items ms m)

abbrev pub IsMarkedBy : Option Held → (List (List Mark) → List Mark) → Type 0
IsMarkedBy None F = (ms : List (List Mark)) → F ms ≡ []
IsMarkedBy (Some (Value k)) F = (ms : List (List Mark)) → F ms ≡ []
IsMarkedBy (Some (Function s)) F = IsMarked s.marked F

-- names stand for what they are bound to
abbrev pub FitMarks : List BoundName → Marking → Type 0
FitMarks ns M = (x : Word) → IsMarkedBy (held_in ns x) (M x)

-- M with parameters above it, where this stands in their arguments
abbrev pub given_marks : Marking → List Word → List (List Mark) → Marking
given_marks M [] ms = M
given_marks M (x ∷ xs) [] = M
given_marks M (x ∷ xs) (m ∷ ms) = given_marks (with_mark M x (λ _. m)) xs ms

-- these traces tell what stands in the term
abbrev pub Traced : List BoundName → List Word → List Trace → Term → Type 0
Traced ns xs ts t = (M : Marking) → FitMarks ns M → (ms : List (List Mark)) → length xs ≤ length ms → (m : Mark) → Contains (marks (given_marks M xs ms) t) m ↔ Comes ts ms m

abbrev pub trace_if : Bool → Trace → Trace
trace_if d t = record { place = t.place; denied = d || t.denied }

-- a trace of the callee, and one of its argument, one behind another
pub record Composes (ts : List Trace) (as' : List (List Trace)) (q : Trace) : Type 0 where
  pub trace : Trace
  pub among : Contains ts trace
  pub inner : Trace
  pub there : Contains (get_or as' trace.place []) inner
  pub is : q ≡ trace_if trace.denied inner

abbrev pub ForEach : {A X : Type 0} → (A → X → Type 0) → List A → List X → Type 0
ForEach R [] [] = Unit {0}
ForEach R [] (x ∷ xs) = ⊥
ForEach R (a ∷ as') [] = ⊥
ForEach R (a ∷ as') (x ∷ xs) = R a x × ForEach R as' xs

-- so for each of these
abbrev pub AreTraced : List BoundName → List Word → List (List Trace) → List Term → Type 0
AreTraced ns xs = ForEach (Traced ns xs)

-- the trace is noted as listed
abbrev pub IsSeen : Once → Trace → Type 0
IsSeen o q = get_or (cond q.denied o.denied.items o.allowed.items) q.place false ≡ true

abbrev pub AreListed : Once → Type 0
AreListed o = (q : Trace) → IsSeen o q → Contains o.listed.items q

-- x is one of these names, and denied
pub record IsDeniedName (ts : List Trace) (xs : List Word) (x : Word) : Type 0 where
  pub place : ℕ
  pub inside : place < length xs
  pub among : Contains ts (record { place = place; denied = true })
  pub is : x ≡ get_or xs place []

abbrev pub traces_applied : Sign → List Trace → List Trace
traces_applied Complement ts = map (trace_if true) ts
traces_applied u ts = ts

abbrev pub traces_joined : Infix → List Trace → List Trace → List Trace
traces_joined Difference ts us = ts ++ map (trace_if true) us
traces_joined o ts us = ts ++ us

-- what stands in what is bound, where this stands in its arguments
abbrev pub IsOuter : Option Held → List (List Trace) → List Trace → Type 0
IsOuter None vs ts = ts ≡ []
IsOuter (Some (Value k)) vs ts = ts ≡ []
IsOuter (Some (Function s)) vs ts = (q : Trace) → Contains ts q ↔ ((s.marked.count ≤ length vs) × Composes s.marked.traces.items vs q)

-- a name that is tracked, or one that isn't
abbrev pub IsNamedAt : Option ℕ → Option Held → List (List Trace) → List Trace → Type 0
IsNamedAt (Some i) h vs ts = ts ≡ record { place = i; denied = false } ∷ []
IsNamedAt None h vs ts = IsOuter h vs ts

abbrev pub IsNamed : List BoundName → List Word → Word → List (List Trace) → List Trace → Type 0
IsNamed ns xs x vs ts = IsNamedAt (place_in xs x) (held_in ns x) vs ts
