-- Executions of which some writes are open: each of these may stand anywhere behind the first write of its location.
use Rattle.std.specs.Prelude.{◌≡◌, ◌↔◌, ℕ, suc, List, [], ◌∷◌, ◌++◌, filter, drop, Bool, true, not, nat_lt, ◌==◌, if◌then◌else◌}
use Rattle.std.specs.List.{flat_map}
use Rattle.events.specs.declared.cut.Cut.{Cut}
use Rattle.events.specs.declared.event.EventId.{EventId}
use Rattle.events.specs.declared.named.RelName.{RelName}
use Rattle.events.specs.declared.named.SetName.{SetName}
use Rattle.events.specs.Cuts.{same_event}
use Rattle.events.specs.Executions.{GraphValue}
use Rattle.events.specs.Named.{IsCoherenceBefore, NamedSet, NamedRel}
use Rattle.events.specs.Structures.{sourced_of}

-- the writes of an order without this one
abbrev pub without : EventId → List EventId → List EventId
without w ws = filter (λ v. not (same_event w v)) ws

-- that w stands before all of the others, and that it stands behind them
abbrev pub either_way : List EventId → EventId → List (List EventId)
either_way later w = (w ∷ without w later) ∷ (without w later ++ w ∷ []) ∷ []

-- Orders that have each pair that there may be: the order that the writes have, and each open write at either end of the later ones.
abbrev pub opened_order : List EventId → List EventId → List (List EventId)
opened_order order writes = order ∷ flat_map (either_way (drop 1 order)) writes

-- the open writes of location x: all later ones of the first locations, as many as are free, and these writes of the next one
abbrev pub open_of : (free : ℕ) (unplaced : List EventId) (x : ℕ) → List EventId → List EventId
open_of free unplaced x order = if nat_lt x free then drop 1 order else (if x == free then unplaced else [])

abbrev pub opened_of : (free : ℕ) (unplaced : List EventId) (x : ℕ) → List EventId → List (List EventId)
opened_of free unplaced x order = opened_order order (open_of free unplaced x order)

-- the same of the orders from location x on
abbrev pub opened_from : (free : ℕ) (unplaced : List EventId) (x : ℕ) → List (List EventId) → List (List EventId)
opened_from free unplaced x [] = []
opened_from free unplaced x (order ∷ orders) = opened_of free unplaced x order ++ opened_from free unplaced (suc x) orders

-- the execution with these writes open
abbrev pub opened_part : GraphValue → (free : ℕ) → List EventId → GraphValue
opened_part g free unplaced = record { init = g.init; runs = g.runs; rf = g.rf; co = opened_from free unplaced 0 g.co }

-- the same, where the writes that a cut leaves without a place are the open ones
abbrev pub opened : GraphValue → Cut → GraphValue
opened g c = opened_part g c.locations c.unplaced.now

-- h has no pair in its coherence orders that u has not, and all else is the same
pub record IsWithin (h u : GraphValue) : Type 0 where
  pub init : h.init ≡ u.init
  pub runs : h.runs ≡ u.runs
  pub rf : h.rf ≡ u.rf
  pub co : (d e : EventId) → IsCoherenceBefore h d e → IsCoherenceBefore u d e

-- The law: no relation has a pair that it hasn't in what the execution is within.
abbrev pub RelationsAreWithin : Type 0
RelationsAreWithin = (h u : GraphValue) → IsWithin h u → (name : RelName) (i j : ℕ) → NamedRel h name i j → NamedRel u name i j

-- The law: what an execution is within differs from it in the coherence orders alone.
abbrev pub OneSourced : Type 0
OneSourced = (h u : GraphValue) → IsWithin h u → sourced_of h ≡ sourced_of u

-- whether P holds, told by a truth value
abbrev pub IsDecided : Type 0 → Type 0
IsDecided P = (b : Bool) × ((b ≡ true) ↔ P)

-- The law: of each event it is decided whether it is in the set of a name.
abbrev pub SetsAreDecided : Type 0
SetsAreDecided = (g : GraphValue) (name : SetName) (i : ℕ) → IsDecided (NamedSet g name i)

-- The law: of each pair of events it is decided whether it is in the relation of a name.
abbrev pub RelationsAreDecided : Type 0
RelationsAreDecided = (g : GraphValue) (name : RelName) (i j : ℕ) → IsDecided (NamedRel g name i j)
