-- The writes that stand last in some orders of a location, and in how many of them. No statement on what is found rests on this.
use Rattle.std.specs.Prelude.{◌≡◌, ◌<◌, ℕ, zero, suc, ◌-◌, ◌*◌, ◌≤◌, ◌/◌, ◌%◌, ◌==◌, List, [], ◌∷◌, length, nat_lt, if◌then◌else◌, Bool, false}
use Rattle.std.specs.List.{list_any}
use Rattle.std.proofs.Common.{get_or}
use Rattle.events.specs.declared.event.EventId.{EventId}
use Rattle.events.specs.declared.event.EventId.TheVariants.{Initial}
use Rattle.events.specs.Executions.{GraphValue}
use Rattle.candidates.specs.Blocks.{open_among, placings}
use Rattle.candidates.specs.declared.open_orders.OpenOrders.{OpenOrders}
use Rattle.slices.specs.declared.slot.Slot.{Slot}
use Rattle.slices.specs.declared.ways.Shares.{Shares}
use Rattle.slices.specs.declared.slot.Slot.TheVariants.{Register, Location}
use Rattle.slices.specs.Finals.{last_or}

-- by how many numbers each of the first k of n writes stands last, and by how many the last of the others
abbrev pub share : ℕ → ℕ → ℕ
share n zero = 1
share zero (suc k) = 1
share (suc n) (suc k) = placings n k

abbrev pub rest : ℕ → ℕ → ℕ
rest n zero = 1
rest n (suc k) = share n (suc k) * (n - suc k)

-- A location's writes in an order, of which the first ones have each place. Where the location isn't seen, it doesn't matter which is the last.
pub record WaysValue : Type 0 where
  pub initial : EventId
  pub writes : List EventId
  pub opened : ℕ
  pub seen : Bool

abbrev pub size_of_ways : WaysValue → ℕ
size_of_ways w = placings (length w.writes) w.opened

abbrev pub count_of_ways : WaysValue → ℕ
count_of_ways w = if w.seen then suc w.opened else 1

abbrev pub weight_of_way : WaysValue → ℕ → ℕ
weight_of_way w c = if w.seen then (if nat_lt c w.opened then share (length w.writes) w.opened else rest (length w.writes) w.opened) else size_of_ways w

abbrev pub way : WaysValue → ℕ → EventId
way w c = if w.seen then (if nat_lt c w.opened then get_or w.writes c w.initial else last_or w.initial w.writes) else w.initial

abbrev pub weight_by : {A : Type 0} → (A → ℕ) → (A → ℕ → ℕ) → List A → ℕ → ℕ
weight_by count weight [] j = 1
weight_by count weight (a ∷ as') j = weight a (j % count a) * weight_by count weight as' (j / count a)

-- in how many of the orders of n writes, of which the first k have each place, one of these stands last, and the last of the others
pub record AreShares (n k : ℕ) (seen : Bool) (s : Shares) : Type 0 where
  pub opened : 0 < k → s.opened ≡ (if seen then share n k else placings n k)
  pub other : s.other ≡ (if seen then rest n k else placings n k)

-- a location whose opened writes are some of its writes, the last one not among them
abbrev pub IsSound : WaysValue → Type 0
IsSound w = w.opened ≤ length w.writes - 1

-- THE WAYS THAT THE ORDERS OF AN EXECUTION SHOW

-- how many are opened of n: of one that stands alone behind all others, none is
abbrev pub openable : ℕ → ℕ → ℕ
openable n k = if nat_lt k n then k else n - 1

abbrev pub tail : List EventId → List EventId
tail [] = []
tail (w ∷ ws) = ws

abbrev pub is_location : ℕ → Slot → Bool
is_location y (Register k r) = false
is_location y (Location z) = z == y

-- whether the final value of y is among those that are observed
abbrev pub is_seen : List Slot → ℕ → Bool
is_seen slots y = list_any (is_location y) slots

abbrev pub shown_way : (first : ℕ → EventId) → (seen : ℕ → Bool) → (free k x : ℕ) → List EventId → WaysValue
shown_way first seen free k x order = record { initial = first x; writes = tail order; opened = openable (length (tail order)) (open_among free k x (length (tail order))); seen = seen x }

abbrev pub shown_ways : (first : ℕ → EventId) → (seen : ℕ → Bool) → (free k x : ℕ) → List (List EventId) → List WaysValue
shown_ways first seen free k x [] = []
shown_ways first seen free k x (o ∷ os) = shown_way first seen free k x o ∷ shown_ways first seen free k (suc x) os

-- the ways of each location's order in an execution of which some orders are open
abbrev pub ways_shown : List Slot → OpenOrders → GraphValue → List WaysValue
ways_shown slots o x = shown_ways Initial (is_seen slots) o.unplaced.locations o.unplaced.writes 0 x.co
