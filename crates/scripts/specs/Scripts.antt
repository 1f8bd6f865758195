-- Which instructions a script spells. What is ahead before and after is told where the reader tells its bytes.
use Rattle.std.specs.Prelude.{◌≡◌, ◌≢◌, ◌<◌, ◌+◌, ◌++◌, ◌∷◌, [], ℕ, List, Option, take, codes}
use Rattle.std.specs.Io.KnownBytes.{IsAtEnd, Keeps}
use Rattle.scripts.specs.Lines.{IsNextLine, AreLines, IsLong}
use Rattle.scripts.specs.Spelled.{Begins, OpensText, IsSkipped, IsBad}
use Rattle.scripts.specs.declared.instruction.Instruction.{Instruction}
use Rattle.scripts.specs.declared.instruction.Instruction.TheVariants.{Call, Work}
use Rattle.scripts.specs.declared.instruction.Request.TheVariants.{PutCat, PutTest}

-- lines that nothing is done for
pub data AreSkipped (before : Option (List ℕ)) : Option (List ℕ) → Type 0 where
  no_line : AreSkipped before before
  next_line : {mid after : Option (List ℕ)} {line : List ℕ} → AreSkipped before mid → IsNextLine mid after line → IsSkipped line → AreSkipped before after

-- lines of a text, each with a line feed behind it
pub data AreOfText (before : Option (List ℕ)) : Option (List ℕ) → List ℕ → Type 0 where
  no_text : AreOfText before before []
  next_of_text : {mid after : Option (List ℕ)} {text line : List ℕ} → AreOfText before mid text → IsNextLine mid after line → line ≢ codes "."
      → AreOfText before after (text ++ (line ++ codes "\n"))

-- A text: the lines up to a line `.`. Of a longer one its first 65,537 bytes are kept.
pub record IsText (before after : Option (List ℕ)) (text : List ℕ) : Type 0 where
  pub end : Option (List ℕ)
  pub whole : List ℕ
  pub lines : AreOfText before end whole
  pub closed : IsNextLine end after (codes ".")
  pub kept : text ≡ take 65537 whole

-- what stands behind the first line of an instruction: its text, if it has one
abbrev pub IsFollowed : Option (List ℕ) → Option (List ℕ) → Instruction → Type 0
IsFollowed before after (Call seat (PutCat name text)) = IsText before after text
IsFollowed before after (Call seat (PutTest text)) = IsText before after text
IsFollowed before after (Call seat request) = after ≡ before
IsFollowed before after Work = after ≡ before

-- The next instruction: lines that are skipped, its first line, and its text.
pub record IsNextInstruction (before after : Option (List ℕ)) (instruction : Instruction) : Type 0 where
  pub start : Option (List ℕ)
  pub behind : Option (List ℕ)
  pub line : List ℕ
  pub skipped : AreSkipped before start
  pub first : IsNextLine start behind line
  pub begins : Begins line instruction
  pub followed : IsFollowed behind after instruction

-- No instruction is left: the rest are lines that are skipped. Before them the count of lines stood at m.
pub record IsSpent (before : Option (List ℕ)) (m : ℕ) (after : Option (List ℕ)) : Type 0 where
  pub end : Option (List ℕ)
  pub count : ℕ
  pub skipped : AreSkipped before end
  pub lines : AreLines before m end count
  pub kept : Keeps end after
  pub at_end : IsAtEnd after

-- the instructions of a script, one after another
pub data AreInstructions (before : Option (List ℕ)) : Option (List ℕ) → List Instruction → Type 0 where
  no_instruction : AreInstructions before before []
  next_instruction : {mid after : Option (List ℕ)} {instructions : List Instruction} {instruction : Instruction} → AreInstructions before mid instructions → IsNextInstruction mid after instruction
      → AreInstructions before after (instructions ++ instruction ∷ [])

-- A text that was to begin here is cut off: the line of number n, one of the first 1,000,000, is too long, or the script ends
-- with it, and lines of the text stand before. Before them the count of lines stood at m.
pub data IsCutOff (before : Option (List ℕ)) (m n : ℕ) : Type 0 where
  long_line : {end : Option (List ℕ)} {text : List ℕ} {k : ℕ} → AreOfText before end text → AreLines before m end k → k < 1000000 → IsLong end → n ≡ k + 1 → IsCutOff before m n
  open_text : {end : Option (List ℕ)} {text : List ℕ} {k : ℕ} → AreOfText before end text → AreLines before m end k → IsAtEnd end → n ≡ k → IsCutOff before m n

-- The line of number n, one of the first 1,000,000, is bad: behind lines that are skipped, where an instruction was to begin, it
-- begins none or is too long; or the text of an instruction that begins there is cut off by it. Before them the count of lines
-- stood at m.
pub data IsBadLine (before : Option (List ℕ)) (m n : ℕ) : Type 0 where
  no_head : {mid after : Option (List ℕ)} {line : List ℕ} {k : ℕ} → AreSkipped before mid → AreLines before m mid k → k < 1000000 → IsNextLine mid after line → ¬ IsSkipped line → IsBad line → n ≡ k + 1 → IsBadLine before m n
  long_head : {mid : Option (List ℕ)} {k : ℕ} → AreSkipped before mid → AreLines before m mid k → k < 1000000 → IsLong mid → n ≡ k + 1 → IsBadLine before m n
  bad_text : {mid after : Option (List ℕ)} {line : List ℕ} {k : ℕ} → AreSkipped before mid → AreLines before m mid k → k < 1000000 → IsNextLine mid after line → OpensText line → IsCutOff after (k + 1) n → IsBadLine before m n
