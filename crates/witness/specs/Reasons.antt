-- Why a model forbids an execution.
use Rattle.std.specs.Prelude.{◌≡◌, ℕ, zero, suc, List, [], ◌∷◌, Bool, true, false, IsTrue, Option, None, Some, take, slice_get}
use Rattle.relations.specs.Events.{Has}
use Rattle.relations.specs.Relation.{In}
use Rattle.cat_eval.specs.Judging.{Allowed, Behind, Binds, First, Passes, Unless}
use Rattle.cat_eval.specs.Meaning.{Environment, Means}
use Rattle.cat_eval.specs.declared.value.Entry.{Entry}
use Rattle.cat_eval.specs.declared.value.Value.{Value}
use Rattle.cat_eval.specs.declared.value.Value.TheVariants.{Events, Pairs}
use Rattle.cat_eval.specs.declared.valuing.Outcome.{Outcome}
use Rattle.cat_eval.specs.Steps.{sort_of}
use Rattle.cat_model.specs.Scopes.{Takes}
use Rattle.cat_tree.specs.Tree.{Term, Clause, check}
use Rattle.cat_tree.specs.declared.tree.CheckKind.{CheckKind}
use Rattle.cat_tree.specs.declared.tree.CheckKind.TheVariants.{Acyclic, Irreflexive, Empty}
use Rattle.events.specs.Executions.{GraphValue}
use Rattle.events.specs.Named.{event_count}
use Rattle.witness.specs.Cycles.{IsShortestCycle}
use Rattle.witness.specs.declared.reasons.Evidence.{Evidence}
use Rattle.witness.specs.declared.reasons.Evidence.TheVariants.{Cycle, Itself, Pair, Member, Denied}
use Rattle.witness.specs.declared.reasons.Reason.{Reason}

-- v is the value of the expression behind these items, the later ones under the bindings of the earlier ones
abbrev pub MeansBehind : ℕ → Environment → List Clause → Term → Value → Type 0
MeansBehind n E [] a v = Means n E a v
MeansBehind n E (item ∷ items) a v = (es : List Entry) × Binds n E item es × MeansBehind n (Behind n E item es) items a v

-- the value of an expression of an item in an execution: each name stands for its latest binding before the item
abbrev pub HasValue : List Clause → ℕ → GraphValue → Term → Value → Type 0
HasValue items number g a v = MeansBehind (event_count g) (First g) (take number items) a v

-- what shows that the value fails the check: a shortest cycle, an event that is related to itself, a pair or an event that is in; of a
-- denied check nothing does
abbrev pub IsEvidence : (negated : Bool) → CheckKind → Value → Evidence → Type 0
IsEvidence false Acyclic (Pairs r) (Cycle events) = IsShortestCycle (In r) events.items
IsEvidence false Irreflexive (Pairs r) (Itself i) = In r i i
IsEvidence false Empty (Pairs r) (Pair i j) = In r i j
IsEvidence false Empty (Events s) (Member i) = Has s i
IsEvidence true kind v Denied = Unit {0}
IsEvidence negated kind v e = ⊥

-- The item is a check without a flag that doesn't hold, each such check before it holds, and its expression's value has the evidence.
pub record IsReason (items : List Clause) (g : GraphValue) (r : Reason) : Type 0 where
  pub expression : Term
  pub item : slice_get items r.number ≡ Some (check false r.negated r.kind expression r.name)
  pub before : Allowed (take r.number items) g
  pub value : Value
  pub has : HasValue items r.number g expression value
  pub fails : ¬ Unless r.negated (Passes r.kind value)
  pub evidence : IsEvidence r.negated r.kind value r.evidence

-- the reason why the model forbids the execution, or none where it allows it
abbrev pub IsWhy : List Clause → GraphValue → Option Reason → Type 0
IsWhy items g None = Allowed items g
IsWhy items g (Some r) = (¬ Allowed items g) × IsReason items g r

-- No contract of another crate rests on what follows.

-- the outcome of a check without a flag that doesn't hold: it has a value, of a sort that the check takes, that fails the check
abbrev pub IsFailing : Clause → Outcome → Type 0
IsFailing (check flag negated kind a alias) o = (flag ≡ false) × (value : Value) × (o.checked ≡ Some value) × Takes kind (sort_of value) × (¬ Unless negated (Passes kind value))
IsFailing item o = ⊥

-- the reason names the check, and has evidence of the outcome's value
abbrev pub Explains : ℕ → Clause → Outcome → Reason → Type 0
Explains number (check flag negated kind a alias) o r = (r.number ≡ number) × (r.negated ≡ negated) × (r.kind ≡ kind) × (r.name ≡ alias) × ((value : Value) → o.checked ≡ Some value → IsEvidence negated kind value r.evidence)
Explains number item o r = ⊥

-- each of the outcomes forbids nothing
abbrev pub Permit : List Outcome → Type 0
Permit [] = Unit {0}
Permit (o ∷ os) = IsTrue o.permits × Permit os

-- the outcome at this place forbids something, and each before it nothing
abbrev pub FailsFirst : ℕ → List Outcome → Type 0
FailsFirst zero (o ∷ os) = o.permits ≡ false
FailsFirst (suc k) (o ∷ os) = IsTrue o.permits × FailsFirst k os
FailsFirst k [] = ⊥
