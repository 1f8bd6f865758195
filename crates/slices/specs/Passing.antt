-- What a count passes over.
use Rattle.std.specs.Prelude.{◌≡◌, ℕ, ◌-◌, ◌<◌, ◌≤◌, List, Some}
use Rattle.cat_eval.specs.Judging.{Allowed}
use Rattle.cat_tree.specs.Tree.{Clause}
use Rattle.events.specs.Executions.{GraphValue}
use Rattle.candidates.specs.Candidates.{Choices, graph_at}
use Rattle.candidates.specs.Walks.{Walking}
use Rattle.slices.specs.Lessons.{AreLearned}
use Rattle.slices.specs.declared.pruning.Pruner.{Pruner}

-- A model of these items allows no execution at the numbers from a to before b.
abbrev pub NoneAllowed : List Clause → Choices → ℕ → ℕ → Type 0
NoneAllowed items s a b = (m : ℕ) → a ≤ m → m < b → (x : GraphValue) → graph_at s m ≡ Some x → ¬ Allowed items x

-- It allows none at the number behind which a walk stands, nor from there to before `end`.
abbrev pub IsForbidden : List Clause → Walking → ℕ → Type 0
IsForbidden items w end = (w.next ≤ end) × NoneAllowed items w.space (w.next - 1) end

-- From v to w a walk has gone on behind the number n, and perhaps further, over executions that a model of these items doesn't allow.
pub record ArePassed (items : List Clause) (n : ℕ) (v w : Walking) : Type 0 where
  pub space : w.space ≡ v.space
  pub to : w.to ≡ v.to
  pub later : n < w.next
  pub none : NoneAllowed items v.space n w.next

-- From v to w a walk has gone on, if at all, over executions that a model of these items doesn't allow.
pub record HasGoneOver (items : List Clause) (v w : Walking) : Type 0 where
  pub space : w.space ≡ v.space
  pub to : w.to ≡ v.to
  pub order : v.next ≤ w.next
  pub none : NoneAllowed items v.space v.next w.next

-- What the pruner keeps is right for these candidates: a model of these items allows none at the numbers that were refuted last, and what was learned
-- holds under it.
abbrev pub Knows : Choices → List Clause → Pruner → Type 0
Knows s items p = NoneAllowed items s p.refuted.from p.refuted.to × AreLearned s items p.lessons
