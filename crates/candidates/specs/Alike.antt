-- Executions one behind another that differ in their orders alone.
use Rattle.std.specs.Prelude.{◌≡◌, ℕ, ◌+◌, ◌*◌, ◌<◌, ◌≤◌, List, length, take, Some}
use Rattle.events.specs.declared.event.EventId.{EventId}
use Rattle.events.specs.Executions.{ThreadRun, GraphValue}
use Rattle.events.specs.Opened.{IsWithin}
use Rattle.listings.specs.Numbered.{digits}
use Rattle.candidates.specs.declared.depths.Depth.{Depth}
use Rattle.candidates.specs.declared.open_orders.OpenOrders.{OpenOrders}
use Rattle.candidates.specs.Executions.{later_writes, upto}
use Rattle.candidates.specs.Candidates.{Choices, count_orders, order_at, graph_at}
use Rattle.candidates.specs.Blocks.{free_of, unplaced_of, ways_of_orders}

-- the execution of these runs and sources with the orders of number i
abbrev pub with_orders : List ℕ → List ThreadRun → List EventId → ℕ → GraphValue
with_orders init runs rf i = record { init = init; runs = runs; rf = rf; co = digits (count_orders runs) (order_at runs) (upto (length init)) i }

-- What is open of the orders of n locations: so many numbers of orders there are.
pub record IsOpen (n : ℕ) (runs : List ThreadRun) (o : OpenOrders) : Type 0 where
  pub size : o.size ≡ ways_of_orders runs o.unplaced.locations o.unplaced.writes (upto n)
  pub some : 1 ≤ o.size
  pub fits : o.unplaced.locations < n → o.unplaced.writes ≤ length (later_writes runs o.unplaced.locations)

-- What is open of the orders in the blocks of this depth is all that isn't known there: so many numbers, and these writes.
pub record Opens (n : ℕ) (runs : List ThreadRun) (d : Depth) (o : OpenOrders) : Type 0 where
  pub size : o.size ≡ d.size
  pub locations : o.unplaced.locations ≡ free_of n d.known
  pub writes : take o.unplaced.writes (later_writes runs o.unplaced.locations) ≡ unplaced_of runs d.known

-- At the number a and behind it stand so many executions, with the same runs and sources: those with the orders from a multiple of that number on.
pub record AreAlike (s : Choices) (a : ℕ) (o : OpenOrders) : Type 0 where
  pub runs : List ThreadRun
  pub rf : List EventId
  pub times : ℕ
  pub opens : IsOpen (length s.init) runs o
  pub at : (t : ℕ) → t < o.size → graph_at s (a + t) ≡ Some (with_orders s.init runs rf (o.size * times + t))

-- Each execution at a number from a to before b is within u.
abbrev pub AllWithin : Choices → ℕ → ℕ → GraphValue → Type 0
AllWithin s a b u = (m : ℕ) → a ≤ m → m < b → (x : GraphValue) → graph_at s m ≡ Some x → IsWithin x u
