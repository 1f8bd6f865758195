-- The live claims, of which the newest may stand by itself.
use Rattle.std.specs.Prelude.{◌≡◌, ◌<◌, ◌≤◌, ℕ, true, false, List, [], ◌∷◌, ◌++◌, length, Option, None, Some, if◌then◌else◌}
use Rattle.book.specs.Held.{are_upto}
use Rattle.book.specs.Step.{is_of}
use Rattle.book.specs.Workbench.{is_claimed}
use Rattle.book.specs.declared.live.Live.{Live}

-- all claims, the newest last
abbrev pub with_newest : List Live → Option Live → List Live
with_newest live None = live
with_newest live (Some c) = live ++ c ∷ []

-- the number of the newest, or else this one
abbrev pub number_of : Option Live → ℕ → ℕ
number_of None last = last
number_of (Some c) last = c.number

-- the newest, if it is not of this job
abbrev pub kept_newest : ℕ → Option Live → Option Live
kept_newest job None = None
kept_newest job (Some c) = if is_of job c then None else Some c

-- The newest has the last number that was given, above those of the others, and holds a slice that none of them holds.
abbrev pub IsNewest : List Live × ℕ → Option Live → ℕ → Type 0
IsNewest older None last = older.1 ≤ last
IsNewest older (Some c) last = (older.1 < c.number) × (c.number ≡ last) × (is_claimed older.0 c.job c.slice ≡ false)

-- The others are no more than the last number that they had, and none has a number above it.
pub record AreGiven (older : List Live × ℕ) (latest : Option Live) (last : ℕ) : Type 0 where
  pub upto : are_upto older.1 older.0 ≡ true
  pub few : length older.0 ≤ older.1
  pub newest : IsNewest older latest last
