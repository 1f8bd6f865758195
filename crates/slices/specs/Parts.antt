-- What is found at some of the numbers of a test.
use Rattle.std.specs.Prelude.{ℕ, ◌+◌, ◌-◌, ◌≤◌, ◌^◌, List, [], ◌∷◌}
use Rattle.cat_eval.specs.Judging.{Allowed}
use Rattle.cat_tree.specs.Tree.{Clause}
use Rattle.events.specs.Executions.{GraphValue}
use Rattle.litmus_tree.specs.Tree.{Litmus}
use Rattle.candidates.specs.Candidates.{At, found, choices_of, size_of}
use Rattle.candidates.specs.Executions.{IsSize}
use Rattle.candidates.specs.Faults.{HaveFewRuns}
use Rattle.slices.specs.Findings.{FindingValue}
use Rattle.slices.specs.Verdicts.{Tells}
use Rattle.slices.specs.Works.{WorkValue}

-- how many numbers a test has
abbrev pub test_size : Litmus → ℕ
test_size t = size_of (choices_of t)

-- The runs of each thread are few, and so are the numbers.
pub record IsAdmitted (t : Litmus) : Type 0 where
  pub runs : HaveFewRuns t
  pub size : IsSize t (test_size t)
  pub few : test_size t ≤ 2 ^ 32

-- the executions at the numbers from `from` to `to - 1`
abbrev pub executions_in : Litmus → ℕ → ℕ → List GraphValue
executions_in t from to = found (λ i. At t (from + i)) (to - from)

-- ys are those of xs that have P, in their order
pub data AreThose {X : Type 0} (P : X → Type 0) : (xs ys : List X) → Type 0 where
  at_end : AreThose P [] []
  taken : {x : X} {xs ys : List X} → P x → AreThose P xs ys → AreThose P (x ∷ xs) (x ∷ ys)
  passed : {x : X} {xs ys : List X} → ¬ P x → AreThose P xs ys → AreThose P (x ∷ xs) ys

-- The finding is right for the executions at the numbers from `from` to `to - 1` that a model of these items allows.
abbrev pub IsPart : Litmus → List Clause → ℕ → ℕ → FindingValue → Type 0
IsPart t items from to v = (xs : List GraphValue) × AreThose (Allowed items) (executions_in t from to) xs × Tells t items xs v

-- A slice of a job's numbers, given under a claim.
pub record PieceValue : Type 0 where
  pub claim : ℕ
  pub job : ℕ
  pub slice : ℕ
  pub from : ℕ
  pub to : ℕ
  pub work : WorkValue

-- What is found of it.
pub record PieceResultValue : Type 0 where
  pub piece : PieceValue
  pub found : FindingValue

-- The range lies within the test's numbers.
pub record IsRange (t : Litmus) (from to : ℕ) : Type 0 where
  pub order : from ≤ to
  pub within : to ≤ test_size t
