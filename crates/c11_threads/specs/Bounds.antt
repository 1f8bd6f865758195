-- Facts of all runs: how many events they have and where, their values, and what their events depend on.
use Rattle.std.specs.Prelude.{◌≡◌, ℕ, ◌<◌, ◌≤◌, ◌⊎◌, List, length, All, true}
use Rattle.relations.specs.Events.{Has}
use Rattle.events.specs.declared.event.Access.TheVariants.{Fence}
use Rattle.events.specs.declared.event.Event.{Event}
use Rattle.events.specs.Executions.{ThreadRun, is_read}
use Rattle.listings.specs.Lists.{StandsAt}
use Rattle.litmus_tree.specs.Tree.{Litmus}
use Rattle.litmus_value.specs.Limits.{program_events, ProgramNames}
use Rattle.litmus_value.specs.Values.{InDom}
use Rattle.c11_threads.specs.Runs.{thread_of, IsRun}

-- a fence, or an access to one of m locations
abbrev pub IsPlaced : ℕ → Event → Type 0
IsPlaced m e = (e.access ≡ Fence) ⊎ (e.loc < m)

-- at most n events, each a fence or an access to one of m locations
pub record AreFew (n m : ℕ) (events : List Event) : Type 0 where
  pub count : length events ≤ n
  pub places : All (IsPlaced m) events

-- The law: a run has no more events than its program has on its longest way, each a fence or at a location of the test.
abbrev pub Bounding : Type 0
Bounding = (t : Litmus) (k : ℕ) (run : ThreadRun) → ProgramNames t.locations (thread_of t k) → IsRun t k run → AreFew (program_events (thread_of t k)) (length t.locations) run.events

-- each value of an event and of a register at the end is a value of the test
pub record AreValues (t : Litmus) (run : ThreadRun) : Type 0 where
  pub events : All (λ e. InDom t e.value) run.events
  pub registers : All (InDom t) run.registers

-- The law: every value stays among the values of the test.
abbrev pub Keeping : Type 0
Keeping = (t : Litmus) (k : ℕ) (run : ThreadRun) → k < length t.threads → IsRun t k run → AreValues t run

-- a read stands at place i
abbrev pub IsReadAt : List Event → ℕ → Type 0
IsReadAt events i = (e : Event) × StandsAt events i e × (is_read e.access ≡ true)

-- The law: what an event of a run depends on are reads before it.
abbrev pub Depends : Type 0
Depends = (t : Litmus) (k : ℕ) (run : ThreadRun) → IsRun t k run → (p : ℕ) (e : Event) → StandsAt run.events p e → (i : ℕ) → Has e.data_from i ⊎ Has e.ctrl_from i → (i < p) × IsReadAt run.events i
