-- What is said of executions that a walk found.
use Rattle.std.specs.Prelude.{◌≡◌, ◌↔◌, ◌+◌, ◌-◌, ◌<◌, ◌≤◌, ℕ, List, Some, IsTrue, MatchOption}
use Rattle.cat_eval.specs.Judging.{Allowed, JudgementValue, Raised}
use Rattle.cat_tree.specs.Tree.{Clause}
use Rattle.candidates.specs.Alike.{AreAlike}
use Rattle.candidates.specs.Candidates.{Choices, graph_at}
use Rattle.candidates.specs.Walks.{Walking}
use Rattle.candidates.specs.declared.open_orders.OpenOrders.{OpenOrders}
use Rattle.events.specs.Executions.{GraphValue}
use Rattle.listings.specs.Lists.{Lists}
use Rattle.slices.specs.declared.judged.Judged.{Judged}

-- This is what a model of these items says of the execution: whether it allows it, and if it does, which names are raised.
pub record IsJudged (items : List Clause) (j : JudgementValue) (x : GraphValue) : Type 0 where
  pub allowed : IsTrue j.allowed ↔ Allowed items x
  pub flags : Lists (λ name. Allowed items x × Raised items x name) j.flags

-- It says this of each execution at a number from a to before b.
abbrev pub AllJudged : List Clause → Choices → ℕ → ℕ → JudgementValue → Type 0
AllJudged items s a b j = (m : ℕ) → a ≤ m → m < b → (x : GraphValue) → graph_at s m ≡ Some x → IsJudged items j x

-- From the number on behind which a walk stands, and within its own numbers, these orders are open, and it says this of each execution that they make.
pub record AreJudged (items : List Clause) (w : Walking) (j : JudgementValue) (o : OpenOrders) : Type 0 where
  pub alike : AreAlike w.space (w.next - 1) o
  pub within : w.next - 1 + o.size ≤ w.to
  pub judged : AllJudged items w.space (w.next - 1) (w.next - 1 + o.size) j

-- What is said is right: of the execution that a walk shows, or of all that the open orders make.
abbrev pub IsSaid : List Clause → Walking → Judged → Type 0
IsSaid items w r = MatchOption r.open (IsJudged items r.judgement w.shown) (AreJudged items w r.judgement)
