-- What becomes of a script.
use Rattle.std.specs.Prelude.{◌≡◌, ◌<◌, ◌+◌, ℕ, List, [], ◌∷◌, ◌++◌, length, map, All, Option, Result, Ok, Err, codes, decimal, ◌⊎◌}
use Rattle.std.specs.Io.KnownBytes.{Appends}
use Rattle.std.specs.List.{flat_map, sum_by}
use Rattle.wb_text.specs.Memory.{AppendsPrefix}
use Rattle.journal.specs.Lines.{Line}
use Rattle.journal.specs.declared.records.Reply.TheVariants.{Piece}
use Rattle.slices.specs.Parts.{PieceValue}
use Rattle.book.specs.declared.kept.Refused.{Refused}
use Rattle.book.specs.declared.kept.Refused.TheVariants.{JournalFull, NoMemory}
use Rattle.sessions.specs.Finish.{IsLegal, Unfit, of_seat}
use Rattle.sessions.specs.declared.ending.FinishCause.{FinishCause}
use Rattle.sessions.specs.declared.ending.FinishCause.TheVariants.{MissingPass, Mismatch}
use Rattle.report.specs.Replies.{reply_text}
use Rattle.scripts.specs.Lines.{AreLines}
use Rattle.scripts.specs.Scripts.{AreInstructions, IsNextInstruction, IsBadLine, IsSpent}
use Rattle.scripts.specs.declared.instruction.Instruction.{Instruction}
use Rattle.scripts.specs.declared.instruction.Instruction.TheVariants.{Call as Called}
use Rattle.scripts.specs.declared.instruction.Request.TheVariants.{Return}
use Rattle.scripts.specs.Answers.{Answer, Answers, Made, NotTaken, Worked, entry_of, made_at}
use Rattle.scripts.specs.declared.fault.ServeFault.{ServeFault}
use Rattle.scripts.specs.declared.fault.ServeFault.TheVariants as faults

abbrev pub not_taken_text : Refused → List ℕ
not_taken_text JournalFull = codes "not taken JournalFull\n"
not_taken_text NoMemory = codes "not taken NoMemory\n"

abbrev pub worked_text : ℕ → ℕ → ℕ → List ℕ
worked_text evaluated given_back refused = codes "worked " ++ decimal evaluated ++ codes " " ++ decimal given_back ++ codes " " ++ decimal refused ++ codes "\n"

-- What is written of an answer: the reply of the entry that was made, or that none was; and of work the sums of what the
-- workers counted.
abbrev pub answer_text : Answer → List ℕ
answer_text (Made line) = reply_text line.reply
answer_text (NotTaken why) = not_taken_text why
answer_text (Worked runs) = worked_text (sum_by (λ run. run.counts.evaluated) runs) (sum_by (λ run. run.counts.given_back) runs) (sum_by (λ run. run.counts.refused) runs)

-- An instruction of a script, and what answered it.
pub record Call : Type 0 where
  pub instruction : Instruction
  pub answer : Answer

-- the entries that answered sessions
abbrev pub entries_of : List Call → List Line
entries_of calls = flat_map (λ c. entry_of c.answer) calls

-- the entries that the answers made at a seat
abbrev pub entries_at : ℕ → List Call → List Line
entries_at seat calls = flat_map (λ c. made_at seat c.answer) calls

-- Calls, one after another: each is answered behind the entries that answered those before it.
pub data AreAnswered (workers : ℕ) : List Call → Type 0 where
  no_call : AreAnswered workers []
  next_call : {calls : List Call} (call : Call) → AreAnswered workers calls → Answers workers (entries_of calls) call.instruction call.answer → AreAnswered workers (calls ++ call ∷ [])

-- The journal's entries of each seat, a session's or a worker's, are in order those that the answers made there, and there
-- are no others.
pub record IsBySeat (workers : ℕ) (calls : List Call) (journal : List Line) : Type 0 where
  pub each : (seat : ℕ) → seat < 8 + workers → of_seat seat journal ≡ entries_at seat calls
  pub no_other : All (λ line. line.seat < 8 + workers) journal

-- what is written of calls, one after another
abbrev pub calls_text : List Call → List ℕ
calls_text calls = flat_map (λ c. answer_text c.answer) calls

abbrev pub finish_text : ℕ → List ℕ
finish_text entries = codes "finish ok " ++ decimal entries ++ codes "\n"

abbrev pub cause_text : FinishCause → List ℕ
cause_text (MissingPass seat) = codes "finish 91 MissingPass " ++ decimal seat ++ codes "\n"
cause_text (Mismatch place) = codes "finish 92 Mismatch " ++ decimal place ++ codes "\n"

abbrev pub bad_line_text : ℕ → List ℕ
bad_line_text line = codes "bad line " ++ decimal line ++ codes "\n"

-- The script is done: there is a legal journal, which is what the answers made, and its length is written.
pub record IsDone (workers : ℕ) (calls : List Call) (text : List ℕ) : Type 0 where
  pub journal : List Line
  pub legal : IsLegal journal
  pub seats : IsBySeat workers calls journal
  pub reported : text ≡ finish_text (length journal)

-- The journal is legal, and an entry of this place that was made at some seat isn't the journal's there, or doesn't stand
-- behind the one before it. No seat is missing.
abbrev pub IsUnfinished : List Call → FinishCause → Type 0
IsUnfinished calls (MissingPass seat) = ⊥
IsUnfinished calls (Mismatch place) = (journal : List Line) × IsLegal journal × ((seat : ℕ) × Unfit journal 0 (entries_at seat calls) place)

-- a last line
pub data IsLastLine : List ℕ → Type 0 where
  of_finish : (entries : ℕ) → IsLastLine (finish_text entries)
  of_cause : (cause : FinishCause) → IsLastLine (cause_text cause)
  of_bad_line : (line : ℕ) → IsLastLine (bad_line_text line)
  no_last_line : IsLastLine []

-- What is to stand behind the calls: the number of entries at the end of the script or why they are not the journal, a bad
-- line, or nothing.
abbrev pub Closes : {A : Type 0} → ℕ → List Call → Result A ServeFault → List ℕ → Type 0
Closes workers calls (Ok done) text = IsDone workers calls text
Closes workers calls (Err (faults.Finish cause)) text = IsUnfinished calls cause × (text ≡ cause_text cause)
Closes workers calls (Err (faults.BadLine line)) text = text ≡ bad_line_text line
Closes workers calls (Err faults.Write) text = IsLastLine text
Closes workers calls (Err faults.Read) text = text ≡ []
Closes workers calls (Err faults.NoMemory) text = text ≡ []

-- The writer was given the text; where it failed, a prefix of it.
abbrev pub Tells : {A : Type 0} → Option (List ℕ) → Option (List ℕ) → Result A ServeFault → List ℕ → Type 0
Tells old new (Ok done) text = Appends old new text
Tells old new (Err faults.Write) text = AppendsPrefix old new text
Tells old new (Err fault) text = Appends old new text

-- The entry gives the piece of this claim.
abbrev pub GivesPiece : ℕ → Line → Type 0
GivesPiece claim line = (piece : PieceValue) × (line.reply ≡ Piece piece) × (piece.claim ≡ claim)

-- None of the entries does.
abbrev pub GivesNone : ℕ → List Line → Type 0
GivesNone claim entries = All (λ line. ¬ GivesPiece claim line) entries

-- The line of number n is the last of the next instruction, which is to return a piece that none of these entries gave.
-- Before it the count of lines stood at m.
pub record IsReturnAt (script : Option (List ℕ)) (m n : ℕ) (entries : List Line) : Type 0 where
  pub after : Option (List ℕ)
  pub instruction : Instruction
  pub seat : ℕ
  pub claim : ℕ
  pub next : IsNextInstruction script after instruction
  pub lines : AreLines script m after n
  pub returns : instruction ≡ Called seat (Return claim)
  pub none : GivesNone claim entries

-- What stands behind the instructions that were read, by which sessions made these entries: no instruction at the end of the script, or the
-- line that is reported as bad.
abbrev pub StopsAt : {A : Type 0} → Option (List ℕ) → ℕ → Result A ServeFault → List Line → Type 0
StopsAt script m (Ok done) entries = (rest : Option (List ℕ)) × IsSpent script m rest
StopsAt script m (Err (faults.Finish cause)) entries = (rest : Option (List ℕ)) × IsSpent script m rest
StopsAt script m (Err (faults.BadLine n)) entries = IsBadLine script m n ⊎ IsReturnAt script m n entries
StopsAt script m (Err fault) entries = Unit {0}

-- The calls are those of a script's instructions, one after another, up to where it stops. Before it the count of lines stood at m.
pub record IsRead {A : Type 0} (script : Option (List ℕ)) (m : ℕ) (result : Result A ServeFault) (calls : List Call) : Type 0 where
  pub end : Option (List ℕ)
  pub count : ℕ
  pub instructions : AreInstructions script end (map (λ c. c.instruction) calls)
  pub lines : AreLines script m end count
  pub stops : StopsAt end count result (entries_of calls)

-- A script's instructions were answered at a desk with so many workers, and this was written of it.
pub record IsServed {A : Type 0} (workers : ℕ) (script old new : Option (List ℕ)) (result : Result A ServeFault) : Type 0 where
  pub calls : List Call
  pub read : IsRead script 0 result calls
  pub answered : AreAnswered workers calls
  pub closing : List ℕ
  pub closes : Closes workers calls result closing
  pub reported : Tells old new result (calls_text calls ++ closing)
