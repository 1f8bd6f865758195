-- The depths of the blocks of some runs, from the coarsest to the finest.
use Rattle.std.specs.Prelude.{ℕ, zero, suc, ◌+◌, ◌-◌, ◌%◌, List, [], ◌∷◌, ◌++◌, length, map, filter, Bool, true, false, nat_lt, if◌then◌else◌}
use Rattle.events.specs.declared.event.Event.{Event}
use Rattle.events.specs.Executions.{ThreadRun, GraphValue}
use Rattle.listings.specs.Numbered.{walk}
use Rattle.candidates.specs.declared.depths.Depth.{Depth}
use Rattle.candidates.specs.declared.depths.Known.{Known}
use Rattle.candidates.specs.declared.depths.Known.TheVariants.{Sources, Orders}
use Rattle.candidates.specs.Blocks.{size_by, cut_of}
use Rattle.candidates.specs.Candidates.{Choices, choices}
use Rattle.candidates.specs.Executions.{reads, later_writes, block}

-- Before each of the reads from place m on that has a choice, since its location has later writes: what the reads before it read from.
abbrev pub before_reads : List ThreadRun → ℕ → List Event → List Known
before_reads runs m [] = []
before_reads runs m (r ∷ rs) = if nat_lt 0 (length (later_writes runs r.loc)) then Sources m ∷ before_reads runs (m + 1) rs else before_reads runs (m + 1) rs

-- All orders of the locations behind x, and that of x but for its first k - 1 later writes, its first k - 2, and so on to none.
abbrev pub by_places : ℕ → ℕ → List Known
by_places x zero = []
by_places x (suc k) = Orders (record { locations = x; writes = k }) ∷ by_places x k

-- One write's place more at a time, from the last location to the first. The last write of each has no choice while it is alone.
abbrev pub by_locations : List ThreadRun → ℕ → List Known
by_locations runs zero = []
by_locations runs (suc x) = by_places x (length (later_writes runs x) - 1) ++ by_locations runs x

-- Not all is known: several candidates have that in common.
abbrev pub is_open : ℕ → List ThreadRun → Known → Bool
is_open n runs k = nat_lt 1 (size_by n runs k)

-- THE DEPTHS: from the runs alone, one read's source more at each, then what all reads read from, then one write's place more at each.
abbrev pub known_at_depths : ℕ → List ThreadRun → List Known
known_at_depths n runs = before_reads runs 0 (reads runs) ++ filter (is_open n runs) (Sources (length (reads runs)) ∷ by_locations runs n)

abbrev pub depth_of : ℕ → List ThreadRun → Known → Depth
depth_of n runs k = record { size = size_by n runs k; known = k }

abbrev pub depths_of : ℕ → List ThreadRun → List Depth
depths_of n runs = map (depth_of n runs) (known_at_depths n runs)

-- The candidate at the number i is that with this number among those with its runs.
abbrev pub place_of : Choices → ℕ → ℕ
place_of s i = walk (block (length s.init)) (λ runs j. j) 0 (choices s.threads) i

-- The number behind the block of a depth around the number i: the numbers of its runs stand in blocks of the depth's size. Where there is no such depth, the block is i alone.
abbrev pub end_at : Choices → List Depth → ℕ → ℕ → ℕ
end_at s [] depth i = i + 1
end_at s (d ∷ ds) zero i = i + (d.size - place_of s i % d.size)
end_at s (d ∷ ds) (suc depth) i = end_at s ds depth i

-- What is known of the execution x at a depth, where these are the depths of its runs. Where there is no such depth, all of it is.
abbrev pub cut_at : GraphValue → List Depth → ℕ → GraphValue
cut_at x [] depth = x
cut_at x (d ∷ ds) zero = cut_of d.known x
cut_at x (d ∷ ds) (suc depth) = cut_at x ds depth

-- whether places of writes are known at a depth, where these are the depths of its runs: where there is no such depth, all is known
abbrev pub has_places : Known → Bool
has_places (Sources m) = false
has_places (Orders o) = true

abbrev pub knows_places : List Depth → ℕ → Bool
knows_places [] depth = true
knows_places (d ∷ ds) zero = has_places d.known
knows_places (d ∷ ds) (suc depth) = knows_places ds depth

-- what is known at each of these depths
abbrev pub known_of : List Depth → List Known
known_of ds = map (λ d. d.known) ds
