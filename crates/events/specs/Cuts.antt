-- Executions cut down to what is known of them: what their first reads read from, and the orders of some of their writes.
use Rattle.std.specs.Prelude.{ℕ, suc, ◌⊎◌, All, List, [], ◌∷◌, ◌++◌, map, filter, take, drop, Bool, false, not, nat_lt, ◌==◌, ◌&&◌, if◌then◌else◌}
use Rattle.std.specs.List.{list_any}
use Rattle.listings.specs.Lists.{IsIn, StandsAt}
use Rattle.events.specs.declared.event.EventId.{EventId}
use Rattle.events.specs.declared.event.EventId.TheVariants.{Initial, Own}
use Rattle.events.specs.declared.cut.Cut.{Cut}
use Rattle.events.specs.declared.cut.Excerpt.{Excerpt}
use Rattle.events.specs.declared.cut.Part.{Part}
use Rattle.events.specs.declared.cut.Part.TheVariants as parts
use Rattle.events.specs.Executions.{GraphValue, IsNamed}
use Rattle.events.specs.Named.{StandsBefore}

abbrev pub same_event : EventId → EventId → Bool
same_event (Initial x) (Initial y) = x == y
same_event (Initial x) (Own l q) = false
same_event (Own k p) (Initial y) = false
same_event (Own k p) (Own l q) = (k == l) && (p == q)

abbrev pub is_among : List EventId → EventId → Bool
is_among ws e = list_any (same_event e) ws

-- the writes of an order that have a place, where these have none
abbrev pub placed : List EventId → List EventId → List EventId
placed unplaced order = filter (λ w. not (is_among unplaced w)) order

-- that the first write of an order stands before each of these
abbrev pub first_before : List EventId → List EventId → List (List EventId)
first_before [] ws = []
first_before (x ∷ ys) ws = map (λ w. x ∷ w ∷ []) ws

-- What is known of the order of location x: of the first locations, as many as are free, which write is the first; of the next one the order of all
-- but the unplaced writes, and that the first stands before these; of the others all.
abbrev pub known_of : (free : ℕ) (unplaced : List EventId) (x : ℕ) → List EventId → List (List EventId)
known_of free unplaced x order =
    if nat_lt x free then first_before order (drop 1 order)
    else (if x == free then placed unplaced order ∷ first_before order unplaced else order ∷ [])

-- the same of the orders from location x on
abbrev pub known_from : (free : ℕ) (unplaced : List EventId) (x : ℕ) → List (List EventId) → List (List EventId)
known_from free unplaced x [] = []
known_from free unplaced x (order ∷ orders) = known_of free unplaced x order ++ known_from free unplaced (suc x) orders

-- the execution as far as it is known
abbrev pub known_part : GraphValue → (reads free : ℕ) → List EventId → GraphValue
known_part g reads free unplaced = record { init = g.init; runs = g.runs; rf = take reads g.rf; co = known_from free unplaced 0 g.co }

abbrev pub cut_down : GraphValue → Cut → GraphValue
cut_down g c = known_part g c.reads c.locations c.unplaced.now

-- an execution of which an excerpt alone is known
abbrev pub excerpt_of : GraphValue → Excerpt → GraphValue
excerpt_of g x = record { init = g.init; runs = g.runs; rf = x.sources.now; co = x.order.now ∷ [] }

-- the sources that are known of an execution's reads, and what is known of its orders
abbrev pub sources_known : GraphValue → Part → List EventId
sources_known g (parts.Cut c) = take c.reads g.rf
sources_known g (parts.Excerpt x) = x.sources.now

abbrev pub orders_known : GraphValue → Part → List (List EventId)
orders_known g (parts.Cut c) = known_from c.locations c.unplaced.now 0 g.co
orders_known g (parts.Excerpt x) = x.order.now ∷ []

-- an execution of which a part alone is known
abbrev pub part_of : GraphValue → Part → GraphValue
part_of g p = record { init = g.init; runs = g.runs; rf = sources_known g p; co = orders_known g p }

-- The order of an excerpt is one of events of the execution.
abbrev pub IsOfEvents : GraphValue → Part → Type 0
IsOfEvents g (parts.Cut c) = Unit {0}
IsOfEvents g (parts.Excerpt x) = All (IsNamed g.init g.runs) x.order.now

-- one of these orders has d before e
abbrev pub IsBeforeInOne : List (List EventId) → EventId → EventId → Type 0
IsBeforeInOne orders d e = (order : List EventId) × IsIn order orders × StandsBefore order d e
