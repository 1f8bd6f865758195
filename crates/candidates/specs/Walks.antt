-- A walk over the executions of a space, from number to number.
use Rattle.std.specs.Prelude.{◌≡◌, ℕ, ◌+◌, ◌-◌, ◌%◌, ◌<◌, ◌≤◌, List, [], length, slice_index_or, Option, None, Some, IfSome}
use Rattle.events.specs.Executions.{GraphValue}
use Rattle.candidates.specs.Blocks.{AllExtend, AllOfRuns, Fits, IsAllRead, cut_of}
use Rattle.candidates.specs.Candidates.{Choices, candidate, graph_at, size_of}
use Rattle.candidates.specs.Depths.{depths_of, place_of}
use Rattle.candidates.specs.declared.reading.Hit.{Hit}
use Rattle.candidates.specs.declared.reading.Look.{Look}
use Rattle.candidates.specs.declared.reading.Look.TheVariants.{Found, Until}
use Rattle.candidates.specs.Outlines.{HasNumber}
use Rattle.candidates.specs.Levels.{AreLevels, ArePlaced, groups_of}
use Rattle.candidates.specs.Readings.{IsKnown, IsStretch, MayBeStretch, IsSeen}
use Rattle.candidates.specs.declared.depths.Depth.{Depth}
use Rattle.candidates.specs.declared.page.Ahead.{Ahead}
use Rattle.candidates.specs.declared.walk.Near.{Near}
use Rattle.candidates.specs.declared.walk.Near.TheVariants as of_near
use Rattle.candidates.specs.declared.page.Stretch.{Stretch}
use Rattle.candidates.specs.declared.page.Scene.{Scene}
use Rattle.candidates.specs.declared.walk.Section.{Section}
use Rattle.candidates.specs.declared.walk.PausedWalk.{PausedWalk}

-- A walk goes on from the number `next`, and ends before the number `to`. It shows the execution that it found last.
pub record Walking : Type 0 where
  pub space : Choices
  pub next : ℕ
  pub to : ℕ
  pub shown : GraphValue

-- No execution stands at a number from a to before b.
abbrev pub NoneFrom : Choices → ℕ → ℕ → Type 0
NoneFrom s a b = (m : ℕ) → a ≤ m → m < b → graph_at s m ≡ None

-- Behind the number n comes a later number m, and no execution stands from n to before m.
abbrev pub IsPast : Choices → ℕ → ℕ → Type 0
IsPast s n m = (n < m) × (m ≤ size_of s) × NoneFrom s n m

-- The walk w is v, gone on to the number n.
pub record IsStep (v w : Walking) (n : ℕ) : Type 0 where
  pub space : w.space ≡ v.space
  pub to : w.to ≡ v.to
  pub next : w.next ≡ n

-- From v to w the walk has gone on to the execution at the number n, the first that it had not passed. It shows it, and goes on behind it.
pub record IsHit (v w : Walking) (n : ℕ) : Type 0 where
  pub step : IsStep v w (n + 1)
  pub later : v.next ≤ n
  pub below : n < v.to
  pub none : NoneFrom v.space v.next n
  pub at : graph_at v.space n ≡ Some w.shown

-- From v to w the walk has gone on to its end, and there was no execution.
pub record IsMiss (v w : Walking) : Type 0 where
  pub step : IsStep v w v.to
  pub order : v.next ≤ v.to
  pub none : NoneFrom v.space v.next v.to

-- The number n is in the stretch.
pub record IsWithin (s : Choices) (n : ℕ) (b : Stretch) : Type 0 where
  pub stretch : IsStretch s b
  pub first : b.first ≤ n
  pub last : n < b.first + b.size

-- The number is in the stretch at hand, or none is an execution up to a later number.
abbrev pub IsReached : Choices → ℕ → Stretch → Option ℕ → Type 0
IsReached s n b None = IsWithin s n b
IsReached s n b (Some m) = IsPast s n m

-- The first execution from the number n on is a candidate of the stretch.
pub record IsFound (s : Choices) (n : ℕ) (b : Stretch) (h : Hit) : Type 0 where
  pub stretch : IsStretch s b
  pub order : n ≤ b.first + h.at
  pub within : h.at < b.size
  pub none : NoneFrom s n (b.first + h.at)
  pub known : IsKnown s.init b.page.runs.items h

-- The first execution from the number n on, or none from n to before a later number.
abbrev pub IsVisit : Choices → ℕ → Stretch → Look → Type 0
IsVisit s n b (Found h) = IsFound s n b h
IsVisit s n b (Until m) = IsPast s n m

-- The first execution from a to before c, or none.
abbrev pub IsFind : Choices → Stretch → ℕ → ℕ → Option Hit → Type 0
IsFind s b a c None = NoneFrom s a c
IsFind s b a c (Some h) = (b.first + h.at < c) × IsFound s a b h

-- The first execution from a to before c that is in the stretch; or none from a to before a number.
abbrev pub IsNear : Choices → Stretch → ℕ → ℕ → Near → Type 0
IsNear s b a c (of_near.Found h) = (b.first + h.at < c) × IsFound s a b h
IsNear s b a c (of_near.Until n) = (a ≤ n) × NoneFrom s a n

-- The stretch at which a walk looks is one of the space, and what is kept of the threads is theirs.
pub record IsAhead (s : Choices) (a : Ahead) : Type 0 where
  pub stretch : MayBeStretch s a.stretch
  pub levels : AreLevels (length s.init) (groups_of s) a.levels.items

-- Where a number of what was shown before is known, it is that of its runs' candidate with this number.
abbrev pub IsNumberOf : ℕ → Scene → Type 0
IsNumberOf locations c = IfSome c.room_number (HasNumber locations c.room)

-- The stretch of what is shown is one of the space, and what is shown is its candidate with the number that is named. The depths are those of the runs that are shown, and the places those of the runs.
pub record IsScene (s : Choices) (c : Scene) : Type 0 where
  pub stretch : MayBeStretch s c.stretch
  pub none : c.stretch.size ≡ 0 → c.stretch.page.depths.items ≡ []
  pub within : 1 ≤ c.stretch.size → c.hit.at < c.stretch.size
  pub seen : 1 ≤ c.stretch.size → IsSeen s.init c.stretch.page c.graph c.hit.at
  pub known : 1 ≤ c.stretch.size → IsKnown s.init c.stretch.page.runs.items c.hit
  pub depths : c.stretch.page.depths.items ≡ depths_of (length s.init) c.graph.runs
  pub placed : ArePlaced s.threads c.graph.runs c.places.items
  pub room : ArePlaced s.threads c.room.runs.items c.room_places.items
  pub number : IsNumberOf (length s.init) c
  pub ahead : IsAhead s c.ahead

-- The paused walk may go on among these candidates.
abbrev pub IsPausedIn : Choices → PausedWalk → Type 0
IsPausedIn s p = IsScene s p.scene

-- The number before n is in the stretch.
abbrev pub IsPlace : Stretch → ℕ → ℕ → Type 0
IsPlace b n place = (place < b.size) × (n ≡ b.first + place + 1)

-- The stretch has the number before n, and no such depth; or it hasn't that number.
abbrev pub HasNoSection : Stretch → (n depth : ℕ) → Type 0
HasNoSection b n depth = (place : ℕ) → IsPlace b n place → length b.page.depths.items ≤ depth

-- The section is the block of this depth around the number before n, which is in the stretch: its executions extend what is known of the candidate there.
pub record IsSection (s : Choices) (b : Stretch) (n depth : ℕ) (r : Section) : Type 0 where
  pub at : Depth
  pub inside : depth < length b.page.depths.items
  pub there : at ≡ slice_index_or b.page.depths.items depth at
  pub known : r.known ≡ at.known
  pub ends : r.end ≡ n - 1 + (at.size - r.place % at.size)
  pub stretch : IsStretch s b
  pub place : n ≡ b.first + r.place + 1
  pub within : r.place < b.size
  pub fits : Fits (length s.init) b.page.runs.items r.known
  pub later : n ≤ r.end
  pub most : r.end ≤ size_of s
  pub extend : AllExtend s (n - 1) r.end (cut_of r.known (candidate s.init b.page.runs.items r.place))
  pub alike : AllOfRuns s (n - 1) r.end b.page.runs.items

-- The execution that the walk shows stands at the number before the one where it goes on, and at no other.
pub record IsJustFound (w : Walking) : Type 0 where
  pub some : 1 ≤ w.next
  pub at : graph_at w.space (w.next - 1) ≡ Some w.shown
  pub once : (i : ℕ) → graph_at w.space i ≡ Some w.shown → i ≡ w.next - 1

-- the depths of the blocks around the execution that the walk shows
abbrev pub depths_around : Walking → List Depth
depths_around w = depths_of (length w.space.init) w.shown.runs

-- A block of this depth begins with the execution that the walk found last, and ends within the walk's own numbers; nothing but orders is open in it.
pub record IsBegun (w : Walking) (depth : ℕ) : Type 0 where
  pub at : Depth
  pub inside : depth < length (depths_around w)
  pub there : at ≡ slice_index_or (depths_around w) depth at
  pub read : IsAllRead w.shown.runs at.known
  pub first : place_of w.space (w.next - 1) % at.size ≡ 0
  pub within : w.next - 1 + at.size ≤ w.to
