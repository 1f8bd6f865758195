-- What is put together of the results of a work's slices.
use Rattle.std.specs.Prelude.{◌≡◌, ℕ, suc, ◌*◌, ◌/◌, ◌<◌, ◌≤◌, List, Some}
use Rattle.cat_eval.specs.Judging.{Allowed}
use Rattle.cat_tree.specs.Tree.{Clause}
use Rattle.events.specs.Executions.{GraphValue}
use Rattle.listings.specs.Lists.{IsIn, Lists}
use Rattle.litmus_tree.specs.Tree.{Litmus}
use Rattle.candidates.specs.Candidates.{At}
use Rattle.slices.specs.declared.span.Span.{Span}
use Rattle.slices.specs.Findings.{FindingValue}
use Rattle.slices.specs.Parts.{PieceResultValue, test_size}
use Rattle.slices.specs.Verdicts.{Tells}
use Rattle.slices.specs.Works.{WorkValue}

-- i is one of the numbers
abbrev pub holds : Span → ℕ → Type 0
holds s i = (s.from ≤ i) × (i < s.to)

-- i is one of the numbers of these ranges
abbrev pub IsHeld : List Span → ℕ → Type 0
IsHeld spans i = (s : Span) × IsIn s spans × holds s i

-- No number of s is one of theirs.
abbrev pub IsApart : Span → List Span → Type 0
IsApart s spans = (i : ℕ) → holds s i → ¬ IsHeld spans i

-- Together they hold all numbers below n.
abbrev pub IsCover : ℕ → List Span → Type 0
IsCover n spans = (i : ℕ) → i < n → IsHeld spans i

-- the numbers that a result is over
abbrev pub span_of : PieceResultValue → Span
span_of r = record { from = r.piece.from; to = r.piece.to }

-- The ranges of the results of a work so far, in the order in which they came.
pub record TallyValue : Type 0 where
  pub work : WorkValue
  pub spans : List Span

-- x stands at one of the numbers, and a model of these items allows it.
abbrev pub IsAmong : Litmus → List Clause → List Span → GraphValue → Type 0
IsAmong t items spans x = ((i : ℕ) × IsHeld spans i × (At t i ≡ Some x)) × Allowed items x

-- What a tally keeps is right for the allowed executions at the numbers of its ranges, each counted once.
pub record IsTally (t : Litmus) (items : List Clause) (spans : List Span) (v : FindingValue) : Type 0 where
  pub within : (s : Span) → IsIn s spans → s.to ≤ test_size t
  pub executions : List GraphValue
  pub each : Lists (IsAmong t items spans) executions
  pub told : Tells t items executions v

-- where slice i begins when n numbers are cut into so many slices
abbrev pub cut : ℕ → ℕ → ℕ → ℕ
cut n total i = n * i / total

-- The law: the slices follow one another from 0 to n.
pub record IsInOrder (n total : ℕ) : Type 0 where
  pub first : cut n total 0 ≡ 0
  pub last : cut n total total ≡ n
  pub rising : (i : ℕ) → cut n total i ≤ cut n total (suc i)

abbrev pub CutsInOrder : Type 0
CutsInOrder = (n total : ℕ) → 1 ≤ total → IsInOrder n total
