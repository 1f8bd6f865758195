-- The ways on of a thread in the making, of which there may be at most 4,096.
use Rattle.std.specs.Prelude.{◌≡◌, ℕ, ◌+◌, ◌<◌, List, ◌++◌, length, Result, MatchResult}
use Rattle.std.specs.List.{flat_map}
use Rattle.c11_threads.specs.declared.fault.RunFault.{RunFault}
use Rattle.c11_threads.specs.declared.fault.RunFault.TheVariants as of_runs
use Rattle.c11_threads.specs.Runs.{Progress}

-- Where the ways of a thread end so far, and how many others wait to be taken on.
pub record Ways : Type 0 where
  pub ends : List Progress
  pub waiting : ℕ
  pub thread : ℕ

-- w, with more ends behind its own
abbrev pub extended : List Progress → Ways → Ways
extended more w = record { ends = w.ends ++ more; waiting = w.waiting; thread = w.thread }

-- w, each of whose ways goes on by f
abbrev pub led : (Progress → List Progress) → Ways → Ways
led f w = record { ends = flat_map f w.ends; waiting = w.waiting; thread = w.thread }

-- What a fault means where these were to be the ways.
abbrev pub IsFaultAt : Ways → RunFault → Type 0
IsFaultAt w (of_runs.TooManyRuns j) = (j ≡ w.thread) × (4096 < length w.ends + w.waiting)
IsFaultAt w of_runs.NoMemory = Unit {0}

-- The ways are extended by these ends, or that fails where they are too many.
abbrev pub Adds : {T : Type 0} → List Progress → Ways → Ways → Result T RunFault → Type 0
Adds more old new r = MatchResult r (λ _. new ≡ extended more old) (IsFaultAt (extended more old))

-- Each of the ways goes on by f, or that fails where they are too many.
abbrev pub Leads : (Progress → List Progress) → Ways → Result Ways RunFault → Type 0
Leads f starts r = MatchResult r (λ ends. ends ≡ led f starts) (IsFaultAt (led f starts))
