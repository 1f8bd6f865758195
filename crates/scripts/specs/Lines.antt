-- The lines of a script, and what of it is still to be read.
use Rattle.std.specs.Prelude.{◌≡◌, ◌≢◌, ◌≤◌, ◌<◌, ◌⊎◌, ◌++◌, ◌+◌, ℕ, List, [], length, Option, None, Some, codes}
use Rattle.std.specs.List.{All}
use Rattle.std.specs.Io.KnownBytes.{prepend_known, Consumes, IsAtEnd}

-- The bytes that are still to be read: those of a block, and then those that the reader has left.
abbrev pub ahead : List ℕ → Option (List ℕ) → Option (List ℕ)
ahead block left = prepend_known block left

-- no byte is a line feed
abbrev pub IsUnbroken : List ℕ → Type 0
IsUnbroken bytes = All (λ byte. byte ≢ 10) bytes

-- no carriage return ends the line
abbrev pub HasNoReturn : List ℕ → Type 0
HasNoReturn line = (front : List ℕ) → line ≢ front ++ codes "\r"

-- a carriage return at the end is taken off
abbrev pub IsTrimmed : List ℕ → List ℕ → Type 0
IsTrimmed line trimmed = ((trimmed ≡ line) × HasNoReturn line) ⊎ (line ≡ trimmed ++ codes "\r")

-- Unbroken bytes came to the line, and what was ahead has lost them and the bytes that end them.
pub record Grows (before after : Option (List ℕ)) (old new ending : List ℕ) : Type 0 where
  pub part : List ℕ
  pub unbroken : IsUnbroken part
  pub grown : new ≡ old ++ part
  pub taken : Consumes before after (part ++ ending)

-- bytes follow, where they are told
abbrev pub HasMore : Option (List ℕ) → Type 0
HasMore None = Unit {0}
HasMore (Some rest) = rest ≢ []

-- The next line: what was ahead has lost it and its end, which is a line feed, a carriage return and a line feed, or
-- the end of the script behind at least one byte. Up to its line feed it has at most 65,536 bytes.
pub data Gives (before after : Option (List ℕ)) (line : List ℕ) : Type 0 where
  fed : HasNoReturn line → length line ≤ 65536 → Consumes before after (line ++ codes "\n") → Gives before after line
  returned : length line < 65536 → Consumes before after (line ++ codes "\r\n") → Gives before after line
  last : HasMore before → length line ≤ 65536 → Consumes before after line → IsAtEnd after → Gives before after line

pub record IsNextLine (before after : Option (List ℕ)) (line : List ℕ) : Type 0 where
  pub unbroken : IsUnbroken line
  pub given : Gives before after line

-- Lines one after another: before them the count stood at m, and behind them it stands where each is counted once.
-- A line is read only where fewer than 1,000,000 were.
pub data AreLines (before : Option (List ℕ)) (m : ℕ) : Option (List ℕ) → ℕ → Type 0 where
  nothing_read : AreLines before m before m
  line_read : {mid after : Option (List ℕ)} {line : List ℕ} {n : ℕ} → AreLines before m mid n → n < 1000000 → IsNextLine mid after line → AreLines before m after (n + 1)

-- Bytes from the front of what was ahead are taken, and no others.
abbrev pub Loses : Option (List ℕ) → Option (List ℕ) → Type 0
Loses before after = (bytes : List ℕ) × Consumes before after bytes

-- A line is ahead that is longer than 65,536 bytes.
pub record IsLong (before : Option (List ℕ)) : Type 0 where
  pub after : Option (List ℕ)
  pub part : List ℕ
  pub unbroken : IsUnbroken part
  pub long : 65536 < length part
  pub taken : (ending : List ℕ) × Consumes before after (part ++ ending)

-- More lines than a script may have: 1,000,000 of them were read, and more follows.
pub record IsTooLong (before : Option (List ℕ)) (m : ℕ) : Type 0 where
  pub end : Option (List ℕ)
  pub count : ℕ
  pub lines : AreLines before m end count
  pub most : 1000000 ≤ count
  pub more : HasMore end
