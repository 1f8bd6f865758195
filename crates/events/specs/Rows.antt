-- How the relations of an execution are worked out.
use Rattle.std.specs.Prelude.{◌≡◌, ◌≢◌, ◌⊎◌, ℕ, ◌+◌, ◌<◌, ◌≤◌, List, length, drop, sum_by, slice_index_or}
use Rattle.listings.specs.Lists.{IsIn, StandsAt}
use Rattle.events.specs.declared.event.EventId.{EventId}
use Rattle.events.specs.declared.event.EventId.TheVariants.{Initial, Own}
use Rattle.events.specs.declared.named.RelName.{RelName}
use Rattle.events.specs.declared.named.RelName.TheVariants as names
use Rattle.events.specs.declared.view.table.Pairwise.{Pairwise}
use Rattle.events.specs.declared.view.table.Pairwise.TheVariants.{Rmw, Data, Ctrl}
use Rattle.events.specs.Executions.{GraphValue}
use Rattle.events.specs.Named.{event_count, location_of, IsMemory, IsNumber, read_names, StandsFrom, StandsBefore}

-- the name of a relation that is tested pair by pair
abbrev pub name_of : Pairwise → RelName
name_of Rmw = names.Rmw
name_of Data = names.Data
name_of Ctrl = names.Ctrl

-- i and j are the numbers of events that P relates
abbrev pub ByNumbers : GraphValue → (EventId → EventId → Type 0) → ℕ → ℕ → Type 0
ByNumbers g P i j = (d : EventId) × (e : EventId) × IsNumber g i d × IsNumber g j e × P d e

-- i is the number of an event with P
abbrev pub ByNumber : GraphValue → (EventId → Type 0) → ℕ → Type 0
ByNumber g P i = (e : EventId) × IsNumber g i e × P e

-- e is an event of thread k, at place p or later
abbrev pub IsFrom : ℕ → ℕ → EventId → Type 0
IsFrom k p (Initial x) = ⊥
IsFrom k p (Own l q) = (k ≡ l) × (p ≤ q)

-- e is an initial write, or an event of one of the first k threads
abbrev pub IsAmongThreads : ℕ → EventId → Type 0
IsAmongThreads k (Initial x) = Unit {0}
IsAmongThreads k (Own l q) = l < k

-- d has P, and R relates it to e
abbrev pub Starting : (EventId → Type 0) → (EventId → EventId → Type 0) → EventId → EventId → Type 0
Starting P R d e = P d × R d e

-- e reads or writes location x
abbrev pub IsAccessOf : GraphValue → ℕ → EventId → Type 0
IsAccessOf g x e = IsMemory g e × (location_of g e ≡ x)

-- P relates i to j, and one of the numbers below k to i
abbrev pub IsBegun : ℕ → (ℕ → ℕ → Type 0) → ℕ → ℕ → Type 0
IsBegun k P i j = P i j × ((m : ℕ) × (m < k) × P m i)

-- i is the number of one of these events
abbrev pub IsNumberOfOne : GraphValue → List EventId → ℕ → Type 0
IsNumberOfOne g es i = (e : EventId) × IsNumber g i e × IsIn e es

-- d is one of these events, and e another, one of those
abbrev pub AreTwoOf : List EventId → List EventId → EventId → EventId → Type 0
AreTwoOf ds es d e = IsIn d ds × IsIn e es × (d ≢ e)

-- one of two events is one of these, and the other another, one of those
abbrev pub AreTwoEitherWay : List EventId → List EventId → EventId → EventId → Type 0
AreTwoEitherWay ds es d e = AreTwoOf ds es d e ⊎ AreTwoOf es ds d e

-- i is the number of event e, and not one of these numbers
abbrev pub IsNumberUnless : GraphValue → (ℕ → Type 0) → EventId → ℕ → Type 0
IsNumberUnless g P e i = IsNumber g i e × (¬ P i)

-- i is the number of an event that stands in the order at place from or later
abbrev pub IsBehind : GraphValue → List EventId → ℕ → ℕ → Type 0
IsBehind g order from i = (e : EventId) × IsNumber g i e × StandsFrom order from e

-- d stands in the order at place from or later, and before e
abbrev pub StandsBeforeFrom : List EventId → ℕ → EventId → EventId → Type 0
StandsBeforeFrom order from d e = (a : ℕ) × (from ≤ a) × StandsAt order a d × StandsFrom order (a + 1) e

-- the coherence order of one of the first locations has d before e
abbrev pub IsBeforeAmong : GraphValue → ℕ → EventId → EventId → Type 0
IsBeforeAmong g count d e = (x : ℕ) × (order : List EventId) × (x < count) × StandsAt g.co x order × StandsBefore order d e

-- one of the first reads is r, and it reads from w, if these are the sources
abbrev pub ReadsAmong : GraphValue → List EventId → ℕ → EventId → EventId → Type 0
ReadsAmong g sources count w r = (m : ℕ) × (m < count) × StandsAt (read_names g) m r × StandsAt sources m w

-- r is the read with this number among the reads, and it reads from w, if these are the sources
abbrev pub IsReadAt : GraphValue → List EventId → ℕ → EventId → EventId → Type 0
IsReadAt g sources m w r = StandsAt (read_names g) m r × StandsAt sources m w

-- firsts gives of each thread the number of its first event: with the events of this thread and of those behind it, that makes all events
pub record AreFirsts (g : GraphValue) (firsts : List ℕ) : Type 0 where
  pub threads : length firsts ≡ length g.runs
  pub first : (k : ℕ) → k < length g.runs → slice_index_or firsts k 0 + sum_by (λ run. length run.events) (drop k g.runs) ≡ event_count g
