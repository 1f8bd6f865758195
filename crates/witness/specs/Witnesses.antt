-- Executions that show what a verdict says.
use Rattle.std.specs.Prelude.{◌≡◌, ℕ, ◌<◌, List, Bool, Option, None, Some}
use Rattle.candidates.specs.Candidates.{At}
use Rattle.candidates.specs.Executions.{IsExecution}
use Rattle.cat_eval.specs.Judging.{Allowed}
use Rattle.cat_tree.specs.Tree.{Clause}
use Rattle.events.specs.Executions.{GraphValue}
use Rattle.litmus_tree.specs.Tree.{Litmus}
use Rattle.slices.specs.Parts.{test_size}
use Rattle.slices.specs.Questions.{IsAnswer}

-- A model of these items allows the execution, and its final state has the proposition of the test, or has it not.
abbrev pub IsWitness : Litmus → List Clause → Bool → GraphValue → Type 0
IsWitness t items has x = Allowed items x × IsAnswer t x has

-- no execution at a number below n has W
abbrev pub NoneBelow : Litmus → (GraphValue → Type 0) → ℕ → Type 0
NoneBelow t W n = (m : ℕ) → m < n → (y : GraphValue) → At t m ≡ Some y → ¬ W y

-- x is an execution of the test that has W, the first by number
pub record IsFirst (t : Litmus) (W : GraphValue → Type 0) (x : GraphValue) : Type 0 where
  pub execution : IsExecution t x
  pub has : W x
  pub number : ℕ
  pub below : number < test_size t
  pub at : At t number ≡ Some x
  pub first : NoneBelow t W number

-- the first execution of the test that has W, or none where no execution has it
abbrev pub IsFound : Litmus → (GraphValue → Type 0) → Option GraphValue → Type 0
IsFound t W None = (x : GraphValue) → IsExecution t x → ¬ W x
IsFound t W (Some x) = IsFirst t W x
