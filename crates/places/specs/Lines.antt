-- The line of a place in a text, and how people count: lines and columns from 1, a column for each byte.
use Rattle.std.specs.Prelude.{◌≡◌, ◌≢◌, ℕ, ◌+◌, ◌-◌, ◌<◌, ◌≤◌, ◌==◌, min, Bool, List, length, take, slice_index}
use Rattle.std.specs.List.{count_by, slice_range}
use Rattle.places.specs.declared.place.Place.{Place}

abbrev pub is_feed : ℕ → Bool
is_feed b = b == 10

-- The offset stands in the line of the bytes from `from` up to and without `to`: that goes on until the text begins or ends, or a line feed stands.
pub record IsLineAt (text : List ℕ) (offset from to : ℕ) : Type 0 where
  pub before : from ≤ offset
  pub behind : offset ≤ to
  pub within : to ≤ length text
  pub first : 0 < from → slice_index text (from - 1) ≡ 10
  pub last : to < length text → slice_index text to ≡ 10
  pub unbroken : (k : ℕ) → from ≤ k → k < to → slice_index text k ≢ 10

-- an offset behind the end stands for the end
abbrev pub reached : List ℕ → ℕ → ℕ
reached text offset = min offset (length text)

-- The place of an offset: its line's number is that of the line feeds before it and 1.
pub record IsPlaceOf (text : List ℕ) (offset : ℕ) (p : Place) : Type 0 where
  pub from : ℕ
  pub to : ℕ
  pub is_line : IsLineAt text (reached text offset) from to
  pub line : p.line ≡ count_by is_feed (take (reached text offset) text) + 1
  pub column : p.column ≡ reached text offset - from + 1
  pub source : p.source.now ≡ slice_range text from to
