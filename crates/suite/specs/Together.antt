-- Slices of a work that several threads evaluate.
use Rattle.std.specs.Prelude.{◌≡◌, ℕ, ◌+◌, ◌*◌, ◌<◌, ◌≤◌, List, length, get_or, Result, IfOk}
use Rattle.std.specs.declared.vec.Vec.{Vec}
use Rattle.slices.specs.Courses.{IsCourse}
use Rattle.slices.specs.Parts.{PieceResultValue, test_size}
use Rattle.slices.specs.Tallies.{TallyValue, cut}
use Rattle.slices.specs.Works.{WorkValue}
use Rattle.suite.specs.declared.together.Round.{Round}

-- The result is over slice i of so many of the work.
abbrev pub IsSlice : WorkValue → ℕ → ℕ → PieceResultValue → Type 0
IsSlice w total i r = (r.piece.work ≡ w) × (r.piece.from ≡ cut (test_size w.test) total i) × (r.piece.to ≡ cut (test_size w.test) total (i + 1))

-- The round's slices are among so many, and there are no more threads than slices.
pub record IsRound (r : Round) : Type 0 where
  pub some : 1 ≤ r.threads
  pub threads : r.threads ≤ r.total
  pub order : r.from ≤ r.to
  pub within : r.to ≤ r.total
  pub few : r.total ≤ 1024

-- They are the results of a thread's slices in a round, in their order: thread t has slice t of the round, and from there on each n-th, where n threads are.
pub record IsFoundBy (w : WorkValue) (r : Round) (t : ℕ) (xs : List PieceResultValue) : Type 0 where
  pub each : (k : ℕ) (d : PieceResultValue) → k < length xs → IsSlice w r.total (r.from + (t + k * r.threads)) (get_or xs k d)
  pub all : r.to ≤ r.from + (t + length xs * r.threads)

-- They are what each thread found in a round, or memory ran out.
abbrev pub AreFound : {A E : Type 0} → WorkValue → Round → List (Result (Vec PieceResultValue A) E) → Type 0
AreFound {A} {E} w r xs = (t : ℕ) (d : Result (Vec PieceResultValue A) E) → t < length xs → IfOk (get_or xs t d) (λ v. IsFoundBy w r t v.items)

-- The tally has the results of the first slices of so many.
abbrev pub HasFirst : ℕ → ℕ → TallyValue → Type 0
HasFirst total done t = IsCourse (record { work = t.work; total = total; done = done }) t
