-- What the events of an execution are called in a drawing.
use Rattle.std.specs.Prelude.{ℕ, zero, suc, ◌+◌, ◌-◌, ◌/◌, ◌%◌, List, [], ◌∷◌, length, Bool, true, false, ◌==◌, not, filter, position, unwrap_or, nat_lt, if◌then◌else◌, slice_index_or}
use Rattle.events.specs.contracts.event.EventIdPartialEq.TheImpl.{ghosts as event_equality}
use Rattle.events.specs.declared.event.EventId.{EventId}
use Rattle.events.specs.declared.event.EventId.TheVariants.{Initial, Own}
use Rattle.events.specs.Executions.{GraphValue}
use Rattle.events.specs.Named.{event_names}
use Rattle.drawing.specs.declared.group.Group.{Group}
use Rattle.drawing.specs.declared.group.Group.TheVariants.{InitialWrites, Threads, Thread, Firsts}

-- an execution, and the names of the locations
pub record SceneValue : Type 0 where
  pub graph : GraphValue
  pub locations : List (List ℕ)

-- GROUPS

abbrev pub is_initial : EventId → Bool
is_initial (Initial x) = true
is_initial (Own k p) = false

abbrev pub is_of_thread : ℕ → EventId → Bool
is_of_thread l (Initial x) = false
is_of_thread l (Own k p) = k == l

-- it comes first in its thread
abbrev pub is_first : EventId → Bool
is_first (Initial x) = false
is_first (Own k p) = p == 0

abbrev pub is_in : Group → EventId → Bool
is_in InitialWrites e = is_initial e
is_in Threads e = not (is_initial e)
is_in (Thread l) e = is_of_thread l e
is_in Firsts e = is_first e

-- the events of a group, in the order of their numbers
abbrev pub members : GraphValue → Group → List EventId
members g group = filter (is_in group) (event_names g)

-- NAMES

-- one of `a` to `z`
abbrev pub letter : ℕ → ℕ
letter i = 97 + i % 26

-- a letter, behind another from the second round of the alphabet on
abbrev pub letters_in : ℕ → ℕ → List ℕ
letters_in zero i = letter i ∷ []
letters_in (suc round) i = letter round ∷ letter i ∷ []

-- `a`, `b`, .. `z`, and then `aa`, `ab`, ..
abbrev pub letters : ℕ → List ℕ
letters i = letters_in (i / 26) i

-- the number of an event
unfoldable pub number_of : GraphValue → EventId → ℕ
number_of g e = unwrap_or (position (λ d. event_equality.eq d e) (event_names g)) 0

-- the event with this number
unfoldable pub event_of : GraphValue → ℕ → EventId
event_of g i = slice_index_or (event_names g) i (Initial 0)

-- the place of the event with this number, where the initial writes come last
abbrev pub place_of : GraphValue → ℕ → ℕ
place_of g i = if nat_lt i (length g.init) then i + (length (event_names g) - length g.init) else i - length g.init

-- what the event with this number is called
unfoldable pub name_of : GraphValue → ℕ → List ℕ
name_of g i = letters (place_of g i)
