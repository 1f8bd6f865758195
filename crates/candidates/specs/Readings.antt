-- What is found from a number of some runs on: the first candidate that is an execution, or up to which number none is.
use Rattle.std.specs.Prelude.{◌≡◌, ℕ, suc, ◌+◌, ◌/◌, ◌<◌, ◌≤◌, List, [], length, slice_index_or, map, drop, true, false, ◌==◌, All}
use Rattle.events.specs.declared.event.Event.{Event}
use Rattle.events.specs.declared.event.EventId.{EventId}
use Rattle.events.specs.Executions.{GraphValue, ThreadRun}
use Rattle.listings.specs.Lists.{factorial, product_by}
use Rattle.candidates.specs.declared.reading.Fit.{Fit}
use Rattle.candidates.specs.declared.reading.Suitable.{Suitable}
use Rattle.candidates.specs.declared.reading.Tail.{Tail}
use Rattle.candidates.specs.declared.reading.Hit.{Hit}
use Rattle.candidates.specs.declared.reading.Fit.TheVariants as of_fit
use Rattle.candidates.specs.declared.reading.Look.{Look}
use Rattle.candidates.specs.declared.reading.Look.TheVariants as of_look
use Rattle.candidates.specs.declared.page.Page.{Page}
use Rattle.candidates.specs.declared.page.Stretch.{Stretch}
use Rattle.candidates.specs.declared.fault.TheConstants.{MOST_CANDIDATES}
use Rattle.candidates.specs.Executions.{reads, later_writes, upto, block}
use Rattle.candidates.specs.Candidates.{Choices, count_sources, source_at, digits_down, count_co, candidate, candidate_at, size_of, agree, is_consistent, write_value}
use Rattle.candidates.specs.Bounds.{AreWithin}
use Rattle.candidates.specs.Blocks.{IsDepth}
use Rattle.candidates.specs.Depths.{depths_of, place_of}
use Rattle.candidates.specs.Levels.{ArePlaced}

-- what these reads read from by number i
abbrev pub read_at : List ThreadRun → List Event → ℕ → List EventId
read_at runs rs i = digits_down (count_sources runs) (source_at runs) rs i

-- By the number `at`, the first from i on, each read has the value of what it reads from; by none behind it and before `until`.
pub record IsWhole (init : List ℕ) (runs : List ThreadRun) (rs : List Event) (i : ℕ) (h : Hit) : Type 0 where
  pub order : i ≤ h.at
  pub within : h.at < product_by (count_sources runs) rs
  pub fits : agree init runs rs (read_at runs rs h.at) ≡ true
  pub none : (m : ℕ) → i ≤ m → m < h.at → agree init runs rs (read_at runs rs m) ≡ false
  pub most : h.until ≤ product_by (count_sources runs) rs
  pub behind : (m : ℕ) → h.at < m → m < h.until → agree init runs rs (read_at runs rs m) ≡ false

-- The first number from i on by which each read has the value of what it reads from; or by no number from i to before n.
abbrev pub IsFit : List ℕ → List ThreadRun → List Event → ℕ → Fit → Type 0
IsFit init runs rs i (of_fit.Whole h) = IsWhole init runs rs i h
IsFit init runs rs i (of_fit.Until n) = (i < n) × (n ≤ product_by (count_sources runs) rs) × ((m : ℕ) → i ≤ m → m < n → agree init runs rs (read_at runs rs m) ≡ false)

-- The candidate with the number `at` is an execution, and none before `until` is that reads by a later number.
pub record IsKnown (init : List ℕ) (runs : List ThreadRun) (h : Hit) : Type 0 where
  pub within : h.at < block (length init) runs
  pub holds : is_consistent (candidate init runs h.at) ≡ true
  pub most : h.until ≤ block (length init) runs
  pub behind : (m : ℕ) → h.at / count_co (length init) runs < m / count_co (length init) runs → m < h.until → is_consistent (candidate init runs m) ≡ false

-- The candidate with the number `at` is the first from i on that is an execution.
pub record IsFirst (init : List ℕ) (runs : List ThreadRun) (i : ℕ) (h : Hit) : Type 0 where
  pub order : i ≤ h.at
  pub none : (m : ℕ) → i ≤ m → m < h.at → is_consistent (candidate init runs m) ≡ false
  pub known : IsKnown init runs h

-- The first candidate from the number i on that is an execution; or none from i to before n is.
abbrev pub IsLook : List ℕ → List ThreadRun → ℕ → Look → Type 0
IsLook init runs i (of_look.Found h) = IsFirst init runs i h
IsLook init runs i (of_look.Until n) = (i < n) × (n ≤ block (length init) runs) × ((m : ℕ) → i ≤ m → m < n → is_consistent (candidate init runs m) ≡ false)

-- None of a read's sources from the place a to before b has the read's value.
abbrev pub Misses : List ℕ → List ThreadRun → Event → ℕ → ℕ → Type 0
Misses init runs r a b = (d : ℕ) → a ≤ d → d < b → (write_value init runs (source_at runs r d) == r.value) ≡ false

-- The first two sources of a read that have its value.
pub record AreSuitable (init : List ℕ) (runs : List ThreadRun) (r : Event) (f : Suitable) : Type 0 where
  pub within : f.first ≤ count_sources runs r
  pub none : Misses init runs r 0 f.first
  pub found : f.first < count_sources runs r → write_value init runs (source_at runs r f.first) ≡ r.value
  pub later : f.first < count_sources runs r → f.first < f.next
  pub most : f.next ≤ count_sources runs r
  pub between : Misses init runs r (f.first + 1) f.next

-- Those of each of the first k reads are known.
pub record HaveSuitable (init : List ℕ) (runs : List ThreadRun) (rs : List Event) (fs : List Suitable) (k : ℕ) : Type 0 where
  pub reads : k ≤ length rs
  pub fits : k ≤ length fs
  pub are : (i : ℕ) (r : Event) (f : Suitable) → i < k → AreSuitable init runs (slice_index_or rs i r) (slice_index_or fs i f)

-- What is kept of some runs: their reads, the later writes of each location, and in how many ways the reads can read and the writes be
-- ordered; and depths of blocks.
pub record IsPage (locations : ℕ) (p : Page) : Type 0 where
  pub within : AreWithin locations p.runs.items
  pub most : block locations p.runs.items ≤ MOST_CANDIDATES
  pub reads_are : p.reads.items ≡ reads p.runs.items
  pub writes_are : p.writes.items ≡ map (later_writes p.runs.items) (upto locations)
  pub ways : p.ways ≡ product_by (count_sources p.runs.items) (reads p.runs.items)
  pub orders : p.orders ≡ count_co locations p.runs.items
  pub depths : All (IsDepth locations p.runs.items) p.depths.items

-- The page has the sources that each of its reads fits.
pub record HasSuitable (init : List ℕ) (p : Page) : Type 0 where
  pub many : length p.suitable.items ≡ length p.reads.items
  pub are : HaveSuitable init p.runs.items p.reads.items p.suitable.items (length p.reads.items)

-- how many writes a read may read from, where these are the later writes of each location
abbrev pub sources_among : List (List EventId) → Event → ℕ
sources_among writes r = suc (length (slice_index_or writes r.loc []))

-- how many orders of these later writes there are
abbrev pub orders_among : List EventId → ℕ
orders_among later = factorial (length later)

-- The page is one of some locations, and the read is at one of them.
abbrev pub IsReadOf : Page → Event → Type 0
IsReadOf p r = (n : ℕ) × IsPage n p × (r.loc < n)

-- In so many ways can the page's reads from a place on read.
abbrev pub IsTail : Page → Tail → Type 0
IsTail p t = (t.from ≤ length p.reads.items) × (t.ways ≡ product_by (count_sources p.runs.items) (drop t.from p.reads.items))

-- The numbers of a stretch are those of the candidates with its runs.
pub record IsStretch (s : Choices) (b : Stretch) : Type 0 where
  pub page : IsPage (length s.init) b.page
  pub fits : HasSuitable s.init b.page
  pub size : b.size ≡ block (length s.init) b.page.runs.items
  pub most : b.first + b.size ≤ size_of s
  pub small : b.first + b.size ≤ MOST_CANDIDATES
  pub at : (j : ℕ) → j < b.size → candidate_at s (b.first + j) ≡ candidate s.init b.page.runs.items j
  pub place : (j : ℕ) → j < b.size → place_of s (b.first + j) ≡ j
  pub depths : b.page.depths.items ≡ depths_of (length s.init) b.page.runs.items
  pub placed : ArePlaced s.threads b.page.runs.items b.page.places.items

-- A stretch of some numbers is one of the space. The places of its runs are theirs even if it is of none.
pub record MayBeStretch (s : Choices) (b : Stretch) : Type 0 where
  pub whole : 1 ≤ b.size → IsStretch s b
  pub placed : ArePlaced s.threads b.page.runs.items b.page.places.items

-- The execution is the page's candidate with the number n.
abbrev pub IsSeen : List ℕ → Page → GraphValue → ℕ → Type 0
IsSeen init p x n = (x ≡ candidate init p.runs.items n) × (is_consistent (candidate init p.runs.items n) ≡ true)
