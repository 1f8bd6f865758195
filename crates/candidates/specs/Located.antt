-- Where the candidate with a number is.
use Rattle.std.specs.Prelude.{◌≡◌, ℕ, ◌-◌, ◌<◌, ◌≤◌, List, [], ◌∷◌, ◌⊎◌, length, Option, None, Some}
use Rattle.events.specs.Executions.{ThreadRun}
use Rattle.candidates.specs.declared.threads.Located.{Located}
use Rattle.candidates.specs.declared.threads.Located.TheVariants.{At, Until}
use Rattle.candidates.specs.Executions.{block}
use Rattle.candidates.specs.Candidates.{Choices, choices}
use Rattle.candidates.specs.Outlines.{IsKept}
use Rattle.candidates.specs.Parts.{IsPart}
use Rattle.candidates.specs.Walks.{IsPast}
use Rattle.candidates.specs.declared.threads.Likeness.{Likeness}
use Rattle.candidates.specs.declared.threads.Threads.{Threads}
use Rattle.candidates.specs.declared.fault.TheConstants.{MOST_CANDIDATES}
use Rattle.candidates.specs.Candidates.{size_of}
use Rattle.candidates.specs.Groups.{tally_of, HasRoom}
use Rattle.candidates.specs.Impossible.{AreAllNeeds}
use Rattle.candidates.specs.Levels.{groups_of}
use Rattle.candidates.specs.Parts.{AreAllWithin}

-- what the threads choose among
abbrev pub choices_by : Threads → Choices
choices_by t = record { init = t.init.now; threads = t.runs.now }

-- The groups are those of the runs of the threads, and so is what they read and write, and the runs are within the limits.
pub record AreThreads (t : Threads) : Type 0 where
  pub tallied : t.groups.now ≡ groups_of (choices_by t)
  pub room : HasRoom (tally_of (length t.init.now) []) t.groups.now
  pub needs : AreAllNeeds t.init.now t.runs.now t.needs.now
  pub within : AreAllWithin (length t.init.now) (choices t.runs.now)
  pub most : size_of (choices_by t) ≤ MOST_CANDIDATES

-- The candidate with the number n has these runs, and stands at the number `rest` among those that have them; or none from n to before
-- a later number is an execution.
abbrev pub IsLocated : Choices → ℕ → List ThreadRun → Located → Type 0
IsLocated s n runs (At rest kept) = (rest ≤ n) × (rest < block (length s.init) runs) × IsPart (length s.init) (choices s.threads) (n - rest) (runs ∷ [])
IsLocated s n runs (Until m) = IsPast s n m

-- What is said to stay of the runs before does.
abbrev pub AreKept : List ThreadRun → List ThreadRun → Located → Type 0
AreKept before runs (At rest kept) = IsKept before runs kept
AreKept before runs (Until m) = Unit {0}

-- How many of the first runs stay once the one of the thread at place i is put there, where so many stayed before: all as before if it stood there, else none from i on.
abbrev pub Joins : (i before after : ℕ) → Option Likeness → Type 0
Joins i before after None = after ≡ before
Joins i before after (Some like) = ((after ≡ before) × (before ≤ i)) ⊎ ((after ≡ i) × (i ≤ before))
