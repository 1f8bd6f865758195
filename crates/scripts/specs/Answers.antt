-- What answers the instructions of a script.
use Rattle.std.specs.Prelude.{◌≡◌, ◌<◌, ◌+◌, ◌==◌, ℕ, List, [], ◌∷◌, length, max, if◌then◌else◌}
use Rattle.std.specs.List.{Contains, flat_map}
use Rattle.slices.specs.Parts.{PieceValue}
use Rattle.slices.specs.Verdicts.{IsVerdict}
use Rattle.journal.specs.Lines.{Line, shown}
use Rattle.journal.specs.declared.records.Reply.{Reply}
use Rattle.journal.specs.declared.records.Reply.TheVariants.{Piece, Verdict}
use Rattle.journal.specs.declared.records.Said.{Said}
use Rattle.journal.specs.declared.records.Said.TheVariants as said_of
use Rattle.book.specs.declared.kept.Refused.{Refused}
use Rattle.sessions.specs.declared.passes.Counts.{Counts}
use Rattle.workers.specs.Trace.{Free, IsWorkFrom}
use Rattle.workers.specs.declared.working.Form.TheVariants.{UntilIdle}
use Rattle.scripts.specs.declared.instruction.Instruction.{Instruction}
use Rattle.scripts.specs.declared.instruction.Instruction.TheVariants.{Call, Work}
use Rattle.scripts.specs.declared.instruction.Request.{Request}
use Rattle.scripts.specs.declared.instruction.Request.TheVariants.{PutCat, PutTest, DropCat, DropTest, Ask, Poll, Forget, Release, List as ListAll, Claim, Return, GiveBack, Close}

-- how many workers a desk has, where so many are asked for: at least one
abbrev pub worker_count : ℕ → ℕ
worker_count asked = max asked 1

-- What a worker did: its seat, the entries that it made, and what it counted.
pub record Run : Type 0 where
  pub seat : ℕ
  pub added : List Line
  pub counts : Counts

-- Each worker, at the seats from this one on, claimed, evaluated and returned until nothing was free.
abbrev pub AreRuns : ℕ → List Run → Type 0
AreRuns seat [] = Unit {0}
AreRuns seat (run ∷ runs) = (run.seat ≡ seat) × IsWorkFrom UntilIdle Free run.counts run.added × AreRuns (seat + 1) runs

-- What answers an instruction: an entry is made, or a call isn't taken; and of work what each worker did.
pub data Answer : Type 0 where
  Made : Line → Answer
  NotTaken : Refused → Answer
  Worked : List Run → Answer

-- the entry that answers a session, if any
abbrev pub entry_of : Answer → List Line
entry_of (Made line) = line ∷ []
entry_of (NotTaken why) = []
entry_of (Worked runs) = []

-- the entries that an answer made at a seat
abbrev pub made_at : ℕ → Answer → List Line
made_at seat (Made line) = if line.seat == seat then line ∷ [] else []
made_at seat (NotTaken why) = []
made_at seat (Worked runs) = flat_map (λ run. if run.seat == seat then run.added else []) runs

-- One of the entries gives this piece, under this claim.
abbrev pub IsGiven : ℕ → PieceValue → List Line → Type 0
IsGiven claim piece entries = (piece.claim ≡ claim) × ((line : Line) × Contains entries line × (line.reply ≡ Piece piece))

-- The command that a request makes behind these entries. A result that is returned is of a piece that one of them gave
-- under the claim: of its slice, its range and its work.
abbrev pub Asks : List Line → Request → Said → Type 0
Asks entries (PutCat name text) said = said ≡ said_of.PutCat name text
Asks entries (PutTest text) said = said ≡ said_of.PutTest text
Asks entries (DropCat name) said = said ≡ said_of.DropCat name
Asks entries (DropTest name) said = said ≡ said_of.DropTest name
Asks entries (Ask test cat) said = said ≡ said_of.Ask test cat
Asks entries (Poll job) said = said ≡ said_of.Poll job
Asks entries (Forget job) said = said ≡ said_of.Forget job
Asks entries (Release job) said = said ≡ said_of.Release job
Asks entries ListAll said = said ≡ said_of.List
Asks entries Claim said = said ≡ said_of.Claim
Asks entries (Return claim) said = (piece : PieceValue) × IsGiven claim piece entries × (said ≡ said_of.Return (shown piece))
Asks entries (GiveBack claim) said = said ≡ said_of.GiveBack claim
Asks entries Close said = said ≡ said_of.Close

-- A verdict that is replied is right.
abbrev pub IsRight : Reply → Type 0
IsRight (Verdict v) = IsVerdict v.work.test v.work.model.items v.finding
IsRight reply = Unit {0}

-- An instruction is answered, behind these entries of sessions, at a desk with so many workers: a session's call by an entry of its
-- seat and its command, or by none, where there is a command that it asks for; and work by what each worker did.
abbrev pub Answers : ℕ → List Line → Instruction → Answer → Type 0
Answers workers entries (Call seat request) (Made line) = (seat < 8) × (line.seat ≡ seat) × Asks entries request line.said × IsRight line.reply
Answers workers entries (Call seat request) (NotTaken why) = (said : Said) × Asks entries request said
Answers workers entries Work (Worked runs) = (length runs ≡ workers) × AreRuns 8 runs
Answers workers entries instruction answer = ⊥
