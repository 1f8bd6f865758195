-- How often runs read and write each location, and how many candidates there are by that alone.
use Rattle.std.specs.Prelude.{ℕ, ◌+◌, ◌*◌, ◌^◌, ◌<◌, ◌≤◌, List, [], ◌∷◌, length, map, slice_index_or, count_by, All}
use Rattle.events.specs.declared.event.Event.{Event}
use Rattle.events.specs.Executions.{writes_to}
use Rattle.listings.specs.Lists.{IsIn, tabulate, factorial, product_by, sum_of}
use Rattle.candidates.specs.declared.counts.Counts.{Counts}
use Rattle.candidates.specs.declared.fault.TheConstants.{MOST_CANDIDATES}
use Rattle.candidates.specs.Bounds.{reads_from}

abbrev pub counts_of : List Event → ℕ → Counts
counts_of es x = record { reads = count_by (reads_from x) es; writes = count_by (writes_to x) es }

-- how often the events read and write each of the locations
abbrev pub tally_of : ℕ → List Event → List Counts
tally_of locations es = tabulate locations (counts_of es)

abbrev pub plus : Counts → Counts → Counts
plus a b = record { reads = a.reads + b.reads; writes = a.writes + b.writes }

abbrev pub sum_tally : List Counts → List Counts → List Counts
sum_tally [] bs = []
sum_tally (a ∷ as') [] = []
sum_tally (a ∷ as') (b ∷ bs) = plus a b ∷ sum_tally as' bs

-- the ways to read from a location and to order its writes
abbrev pub ways_of : Counts → ℕ
ways_of c = (c.writes + 1) ^ c.reads * factorial c.writes

-- how many candidates have runs with this tally, and behind them for each thread a run with one of its tallies
abbrev pub size_by : List Counts → List (List (List Counts)) → ℕ
size_by tally [] = product_by ways_of tally
size_by tally (ts ∷ rest) = sum_of (λ t. size_by (sum_tally tally t) rest) ts

abbrev pub IsFew : Counts → Type 0
IsFew c = (c.reads ≤ 512) × (c.writes ≤ 512)

abbrev pub IsSmall : List Counts → Type 0
IsSmall tally = All IsFew tally

-- Whatever runs follow, the tally stays small.
abbrev pub HasRoom : List Counts → List (List (List Counts)) → Type 0
HasRoom tally [] = IsSmall tally
HasRoom tally (ts ∷ rest) = IsSmall tally × ((t : List Counts) → IsIn t ts → HasRoom (sum_tally tally t) rest)

-- the tally at each of the places
abbrev pub spread : List (List Counts) → List ℕ → List (List Counts)
spread tallies places = map (λ p. slice_index_or tallies p []) places

-- Each place is one of the tallies', and each tally has a place.
pub record ArePlaces (tallies : List (List Counts)) (places : List ℕ) : Type 0 where
  pub within : All (λ p. p < length tallies) places
  pub used : (p : ℕ) → p < length tallies → IsIn p places

-- how many candidates have runs with the tally, a run with each of these, and runs of the threads behind
abbrev pub sizes_of : List Counts → List (List Counts) → List (List (List Counts)) → List ℕ
sizes_of tally ts rest = map (λ t. size_by (sum_tally tally t) rest) ts

-- One of those is above the limit.
abbrev pub IsOneAbove : List Counts → List (List Counts) → List (List (List Counts)) → Type 0
IsOneAbove tally ts rest = (t : List Counts) × IsIn t ts × (MOST_CANDIDATES < size_by (sum_tally tally t) rest)
