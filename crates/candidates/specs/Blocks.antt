-- Blocks of candidates: those of some runs that share the higher part of their numbers, and what is known of them.
-- In a candidate's number what the first read reads from is the slowest to change, and the place of the first write in the order of the
-- first location the fastest.
use Rattle.std.specs.Prelude.{◌≡◌, ℕ, zero, suc, ◌*◌, ◌<◌, ◌≤◌, List, [], ◌∷◌, length, take, drop, Some, nat_lt, ◌==◌, if◌then◌else◌}
use Rattle.events.specs.declared.event.EventId.{EventId}
use Rattle.events.specs.Cuts.{known_part}
use Rattle.events.specs.Executions.{ThreadRun, GraphValue}
use Rattle.events.specs.Extends.{Extends}
use Rattle.listings.specs.Lists.{IsIn, StandsAt, product_by}
use Rattle.candidates.specs.declared.depths.Depth.{Depth}
use Rattle.candidates.specs.declared.depths.Known.{Known}
use Rattle.candidates.specs.declared.depths.Known.TheVariants.{Sources, Orders}
use Rattle.candidates.specs.Executions.{reads, later_writes, upto}
use Rattle.candidates.specs.Candidates.{Choices, candidate, count_sources, count_orders, count_co, graph_at}

-- Each execution at a number from a to before b goes on from g.
abbrev pub AllExtend : Choices → ℕ → ℕ → GraphValue → Type 0
AllExtend s a b g = (m : ℕ) → a ≤ m → m < b → (x : GraphValue) → graph_at s m ≡ Some x → Extends g x

-- Each execution at a number from a to before b is a candidate with these runs.
abbrev pub AllOfRuns : Choices → ℕ → ℕ → List ThreadRun → Type 0
AllOfRuns s a b runs = (m : ℕ) → a ≤ m → m < b → (x : GraphValue) → graph_at s m ≡ Some x → (i : ℕ) × (x ≡ candidate s.init runs i)

-- in the order of each location of x stand the writes that stand in that of g
abbrev pub HasWritesOf : GraphValue → GraphValue → Type 0
HasWritesOf g x = (l : ℕ) (o : List EventId) → StandsAt g.co l o → (p : List EventId) × StandsAt x.co l p × ((w : EventId) → IsIn w o → IsIn w p)

-- Each execution at a number from a to before b has the writes of g in its orders.
abbrev pub AllHaveWrites : Choices → ℕ → ℕ → GraphValue → Type 0
AllHaveWrites s a b g = (m : ℕ) → a ≤ m → m < b → (x : GraphValue) → graph_at s m ≡ Some x → HasWritesOf g x

-- how many ways there are to place the first k of n writes among the others
abbrev pub placings : ℕ → ℕ → ℕ
placings n zero = 1
placings zero (suc k) = 1
placings (suc n) (suc k) = suc n * placings n k

-- in how many ways what isn't known of the orders can be
abbrev pub ways_of_orders : List ThreadRun → (free k : ℕ) → List ℕ → ℕ
ways_of_orders runs free k [] = 1
ways_of_orders runs zero k (x ∷ xs) = placings (length (later_writes runs x)) k
ways_of_orders runs (suc free) k (x ∷ xs) = count_orders runs x * ways_of_orders runs free k xs

-- how many of the n later writes of x have no place
abbrev pub open_among : (free k x n : ℕ) → ℕ
open_among free k x n = if nat_lt x free then n else (if x == free then k else 0)

-- THE BLOCKS: the numbers that share the quotient by a size

-- How many numbers a block has in which this is known: of the sources the first m, and none of the orders; or all sources, and some of the orders.
abbrev pub size_by : ℕ → List ThreadRun → Known → ℕ
size_by n runs (Sources m) = count_co n runs * product_by (count_sources runs) (drop m (reads runs))
size_by n runs (Orders o) = ways_of_orders runs o.locations o.writes (upto n)

-- an execution, cut down to what is known
abbrev pub cut_of : Known → GraphValue → GraphValue
cut_of (Sources m) x = known_part x m (length x.init) []
cut_of (Orders o) x = known_part x (length (reads x.runs)) o.locations (take o.writes (later_writes x.runs o.locations))

-- which locations are free where this is known, and which writes of the next one have no place
abbrev pub free_of : ℕ → Known → ℕ
free_of n (Sources m) = n
free_of n (Orders o) = o.locations

abbrev pub unplaced_of : List ThreadRun → Known → List EventId
unplaced_of runs (Sources m) = []
unplaced_of runs (Orders o) = take o.writes (later_writes runs o.locations)

-- All sources are known where this is: nothing but orders is open.
abbrev pub IsAllRead : List ThreadRun → Known → Type 0
IsAllRead runs (Sources m) = m ≡ length (reads runs)
IsAllRead runs (Orders o) = Unit {0}

-- What is open is a location's, and no more writes than it has.
abbrev pub Fits : ℕ → List ThreadRun → Known → Type 0
Fits n runs (Sources m) = Unit {0}
Fits n runs (Orders o) = (o.locations < n) × (o.writes ≤ length (later_writes runs o.locations))

-- Blocks of this depth have the size that they should have.
pub record IsDepth (n : ℕ) (runs : List ThreadRun) (d : Depth) : Type 0 where
  pub size : d.size ≡ size_by n runs d.known
  pub some : 1 ≤ d.size
  pub fits : Fits n runs d.known
