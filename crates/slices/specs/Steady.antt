-- Executions one behind another that have the same events.
use Rattle.std.specs.Prelude.{◌≡◌, ℕ, ◌<◌, ◌≤◌, Option, Some, IfSome}
use Rattle.candidates.specs.Candidates.{Choices, graph_at}
use Rattle.events.specs.Executions.{GraphValue}
use Rattle.events.specs.Structures.{Structure, structure_of}

-- The executions at the numbers from a to before b have one event structure, and if one is relied on, it is theirs.
pub record AreSteady (s : Choices) (a b : ℕ) (relied : Option Structure) : Type 0 where
  pub alike : (m n : ℕ) (x y : GraphValue) → a ≤ m → m < b → a ≤ n → n < b → graph_at s m ≡ Some x → graph_at s n ≡ Some y → structure_of x ≡ structure_of y
  pub theirs : (m : ℕ) (x : GraphValue) → a ≤ m → m < b → graph_at s m ≡ Some x → IfSome relied (λ r. r ≡ structure_of x)
