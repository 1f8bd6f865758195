-- What is told of a fault at a place: `path:line:column: Name (number): sentence`, the source's line, and a caret below the place. (docs/COMMAND.md,
-- "What is refused".)
use Rattle.std.specs.Prelude.{ℕ, Bool, ◌-◌, ◌==◌, min, nat_le, nat_lt, List, [], ◌++◌, take, drop, length, map, replicate, codes, decimal, if◌then◌else◌}
use Rattle.std.specs.List.{position_or_len, before_first, after_first}
use Rattle.places.specs.declared.place.Place.{Place}

-- a byte of a source as it is shown: one that isn't printable as a blank, and one above 127 as `?`
abbrev pub shown : ℕ → ℕ
shown b = if nat_le b 126 then (if nat_le 32 b then b else 32) else (if b == 127 then 32 else 63)

-- the blank of a label
abbrev pub is_blank : ℕ → Bool
is_blank b = b == 32

-- a label, as `12 Syntax`, turned: `Syntax (12)`
unfoldable pub turned : List ℕ → List ℕ
turned label =
    if position_or_len is_blank label == length label then label else after_first is_blank label ++ codes " (" ++ before_first is_blank label ++ codes ")"

-- what stands first of a message at a place
unfoldable pub head : List ℕ → Place → List ℕ
head path p = path ++ codes ":" ++ decimal p.line ++ codes ":" ++ decimal p.column ++ codes ": "

-- Of a line of more bytes than 120, so many are shown: from 60 before the caret on, or those that stand last. What is left out on a side is told by dots.

abbrev pub window_start : (len at : ℕ) → ℕ
window_start len at = min (at - 60) (len - 120)

abbrev pub window : List ℕ → (from : ℕ) → List ℕ
window source from = take 120 (drop from source)

unfoldable pub dots : Bool → List ℕ
dots is_cut = if is_cut then codes "..." else []

-- the bytes of a line from an offset on
unfoldable pub shown_window : List ℕ → (from : ℕ) → List ℕ
shown_window source from = codes "    " ++ dots (nat_lt 0 from) ++ map shown (window source from) ++ dots (nat_lt 120 (length source - from)) ++ codes "\n"

-- the caret below the byte at an offset of such a line
unfoldable pub shown_caret : (at from : ℕ) → List ℕ
shown_caret at from = codes "    " ++ replicate (length (dots (nat_lt 0 from))) 32 ++ replicate (at - from) 32 ++ codes "^\n"

-- the source's line, and a caret
unfoldable pub shown_line : Place → List ℕ
shown_line p = shown_window p.source.now (window_start (length p.source.now) (p.column - 1)) ++ shown_caret (p.column - 1) (window_start (length p.source.now) (p.column - 1))

-- what is told of a fault
unfoldable pub told : (label sentence : List ℕ) → List ℕ
told label sentence = turned label ++ codes ": " ++ sentence ++ codes "\n"

-- a message at a place, and one without
unfoldable pub message : (path label sentence : List ℕ) → Place → List ℕ
message path label sentence p = head path p ++ told label sentence ++ shown_line p

unfoldable pub message_without_place : (path label sentence : List ℕ) → List ℕ
message_without_place path label sentence = path ++ codes ": " ++ told label sentence
