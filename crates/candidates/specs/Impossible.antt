-- Choices of runs that are in no execution: one of their runs reads a value that nothing writes.
use Rattle.std.specs.Prelude.{◌≡◌, ℕ, ◌+◌, ◌%◌, ◌<◌, ◌≤◌, List, [], take, drop, length, Bool, true, false, not, ◌==◌, ◌&&◌, slice_index_or, Option, None, Some, bit_and, bit_or, bit_xor}
use Rattle.std.specs.Int.{bit_at}
use Rattle.std.specs.List.{position}
use Rattle.events.specs.declared.event.Event.{Event}
use Rattle.events.specs.declared.event.EventId.{EventId}
use Rattle.events.specs.Executions.{ThreadRun, is_read, is_write}
use Rattle.listings.specs.Lists.{ForEach, IsIn, sum_of}
use Rattle.candidates.specs.declared.impossible.Needs.{Needs}
use Rattle.candidates.specs.declared.impossible.Store.{Store}
use Rattle.candidates.specs.declared.impossible.ThreadNeeds.{ThreadNeeds}
use Rattle.candidates.specs.Executions.{Writes}
use Rattle.candidates.specs.Parts.{behind}

-- With these runs neither the initial write of x nor any other write writes v to x.
abbrev pub IsUnwritten : List ℕ → List ThreadRun → ℕ → ℕ → Type 0
IsUnwritten init runs x v = (w : EventId) → Writes init runs w x v → ⊥

-- One of the runs reads a value that nothing writes.
abbrev pub IsImpossible : List ℕ → List ThreadRun → Type 0
IsImpossible init runs = (run : ThreadRun) × (e : Event) × IsIn run runs × IsIn e run.events × (is_read e.access ≡ true) × IsUnwritten init runs e.loc e.value

-- The same of each choice that begins with the chosen runs, whatever runs of the threads behind follow.
abbrev pub AreImpossible : List ℕ → List ThreadRun → List (List ThreadRun) → Type 0
AreImpossible init chosen threads = (c : List ThreadRun) → IsIn c (behind chosen threads) → IsImpossible init c

-- the place of the first of these stores that writes v to x
abbrev pub place_of : List Store → ℕ → ℕ → Option ℕ
place_of stores x v = position (λ s. (s.loc == x) && (s.value == v)) stores

abbrev pub number_at : Option ℕ → ℕ
number_at None = 63
number_at (Some place) = place % 63

-- the number of v at x, below 64: its place among the stores, counted anew from each 63rd, and 63 where none writes it
abbrev pub number_of : List Store → ℕ → ℕ → ℕ
number_of stores x v = number_at (place_of stores x v)

-- Whether an event reads another value than its location's initial one.
abbrev pub is_wanting : List ℕ → Event → Bool
is_wanting init e = is_read e.access && not (slice_index_or init e.loc 0 == e.value)

-- Each bit of the word has the number of something that the events read, and that isn't initial.
abbrev pub AreWanted : List ℕ → List Store → List Event → ℕ → Type 0
AreWanted init stores events w = (i : ℕ) → bit_at w i ≡ 1 → (e : Event) × IsIn e events × (is_wanting init e ≡ true) × (number_of stores e.loc e.value ≡ i)

-- All that the events write has the number of a bit of the word.
abbrev pub AreGiven : List Store → List Event → ℕ → Type 0
AreGiven stores events w = (e : Event) → IsIn e events → is_write e.access ≡ true → bit_at w (number_of stores e.loc e.value) ≡ 1

-- All that any run of the threads writes.
abbrev pub AreGivenBy : List Store → List (List ThreadRun) → ℕ → Type 0
AreGivenBy stores threads w = (runs : List ThreadRun) (run : ThreadRun) → IsIn runs threads → IsIn run runs → AreGiven stores run.events w

pub record AreNeeds (init : List ℕ) (stores : List Store) (events : List Event) (n : Needs) : Type 0 where
  pub wants : AreWanted init stores events n.wants
  pub gives : AreGiven stores events n.gives

-- What each run of the thread k reads and writes, and what those behind it write.
pub record HasNeeds (init : List ℕ) (stores : List Store) (threads : List (List ThreadRun)) (k : ℕ) (t : ThreadNeeds) : Type 0 where
  pub runs : ForEach (λ run n. AreNeeds init stores run.events n) (slice_index_or threads k []) t.needs.items
  pub later : AreGivenBy stores (drop (k + 1) threads) t.behind

-- The same of the first threads.
pub record AreAllNeeds (init : List ℕ) (threads : List (List ThreadRun)) (all : List ThreadNeeds) : Type 0 where
  pub stores : List Store
  pub few : length all ≤ length threads
  pub are : (k : ℕ) (t : ThreadNeeds) → k < length all → t ≡ slice_index_or all k t → HasNeeds init stores threads k t

-- Whether one of the words has a bit that the other hasn't.
abbrev pub has_more : (wants gives : ℕ) → Bool
has_more wants gives = not (bit_and wants (bit_xor wants gives) == 0)

-- Whether a run wants, with the chosen ones, what neither they give nor any behind it nor it.
abbrev pub is_refused : Needs → ℕ → Needs → Bool
is_refused chosen later own = has_more (bit_or chosen.wants own.wants) (bit_or (bit_or chosen.gives later) own.gives)

-- From the place d on n candidates have runs that are marked: those of the places before some end.
pub record IsPassed (marks : List Bool) (sizes : List ℕ) (d n : ℕ) : Type 0 where
  pub end : ℕ
  pub order : d ≤ end
  pub within : end ≤ length sizes
  pub sum : sum_of (λ k. k) (take d sizes) + n ≡ sum_of (λ k. k) (take end sizes)
  pub marked : (i : ℕ) → d ≤ i → i < end → slice_index_or marks i false ≡ true

-- A number is `rest` into the size at the place d.
pub record IsChosen (sizes : List ℕ) (number d rest : ℕ) : Type 0 where
  pub place : d < length sizes
  pub within : rest < slice_index_or sizes d 0
  pub sum : number ≡ sum_of (λ k. k) (take d sizes) + rest
