-- The passes of a script's sessions, seats 0 to 7, and of its workers. Private functions speak of them.
use Rattle.std.specs.Prelude.{◌≡◌, ◌≤◌, ◌+◌, ◌-◌, ℕ, List, [], ◌∷◌, ◌++◌, length, take, drop, set, Some, slice_get, Option, Result, Ok, Err, ◌⊎◌}
use Rattle.std.specs.List.{flat_map, sum_by}
use Rattle.journal.specs.Lines.{Line}
use Rattle.journal.specs.declared.records.Said.{Said}
use Rattle.sessions.specs.Views.{PassView}
use Rattle.workers.specs.Trace.{Free, IsWorkFrom}
use Rattle.workers.specs.declared.working.Form.TheVariants.{UntilIdle}
use Rattle.wb_text.specs.declared.fault.Failed.{Failed}
use Rattle.scripts.specs.declared.reading_fault.ScriptFault.{ScriptFault}
use Rattle.scripts.specs.declared.reading_fault.ScriptFault.TheVariants as reading
use Rattle.slices.specs.Parts.{PieceValue}
use Rattle.scripts.specs.Answers.{Answer, Made, NotTaken, Worked, Run, IsGiven, IsRight}
use Rattle.scripts.specs.Serving.{Call, Closes, GivesNone, Tells}
use Rattle.scripts.specs.declared.fault.ServeFault.{ServeFault}
use Rattle.scripts.specs.declared.fault.ServeFault.TheVariants as faults
use Rattle.scripts.specs.declared.outcome.Outcome.{Outcome}
use Rattle.scripts.specs.declared.outcome.Outcome.TheVariants as outcomes
use Rattle.scripts.specs.declared.outcome.Sums.{Sums}

-- passes of the seats from this one on, each with its share
abbrev pub AreSeated : ℕ → List PassView → Type 0
AreSeated seat [] = Unit {0}
AreSeated seat (p ∷ ps) = (p.seat ≡ seat) × (p.parts ≡ 1) × AreSeated (seat + 1) ps

-- each seat of a desk has its pass: there are those of the sessions, and at least one worker's
pub record IsTable (desk : ℕ) (passes : List PassView) : Type 0 where
  pub number : length passes ≡ desk
  pub least : 9 ≤ desk
  pub most : desk ≤ 64
  pub seated : AreSeated 0 passes

-- from this seat on each pass has these entries as its receipts
abbrev pub Have : (ℕ → List Line) → ℕ → List PassView → Type 0
Have entries seat [] = Unit {0}
Have entries seat (p ∷ ps) = (p.receipts ≡ entries seat) × Have entries (seat + 1) ps

-- the receipts of the sessions
abbrev pub session_receipts : List PassView → List Line
session_receipts passes = flat_map (λ p. p.receipts) (take 8 passes)

-- none of the passes has a receipt that gives the piece of this claim
abbrev pub NoneGives : ℕ → List PassView → Type 0
NoneGives claim [] = Unit {0}
NoneGives claim (p ∷ ps) = GivesNone claim p.receipts × NoneGives claim ps

-- one of them has one that gives this piece under the claim
abbrev pub SomeGives : ℕ → List PassView → PieceValue → Type 0
SomeGives claim [] piece = ⊥
SomeGives claim (p ∷ ps) piece = IsGiven claim piece p.receipts ⊎ SomeGives claim ps piece

-- the pass of its seat has the entry as one receipt more
pub record Grows (line : Line) (before after : List PassView) : Type 0 where
  pub pass : PassView
  pub at : slice_get before line.seat ≡ Some pass
  pub is : after ≡ set before line.seat (record pass { receipts = pass.receipts ++ line ∷ [] })

-- the pass of each worker has the entries that it made as further receipts
abbrev pub AreWorked : List PassView → List PassView → List Run → Type 0
AreWorked [] [] [] = Unit {0}
AreWorked (p ∷ ps) (q ∷ qs) (run ∷ runs) = (run.seat ≡ p.seat) × (q ≡ record p { receipts = p.receipts ++ run.added; counts = run.counts })
    × IsWorkFrom UntilIdle Free run.counts run.added × AreWorked ps qs runs
AreWorked ps qs runs = ⊥

pub record Works (runs : List Run) (before after : List PassView) : Type 0 where
  pub workers : List PassView
  pub is : after ≡ take 8 before ++ workers
  pub worked : AreWorked (drop 8 before) workers runs

-- what the passes become by an answer
abbrev pub Become : Answer → List PassView → List PassView → Type 0
Become (Made line) before after = Grows line before after
Become (NotTaken why) before after = after ≡ before
Become (Worked runs) before after = Works runs before after

-- the entry is the last receipt of the pass of this seat
pub record IsLastAt (seat : ℕ) (passes : List PassView) (line : Line) : Type 0 where
  pub pass : PassView
  pub at : slice_get passes seat ≡ Some pass
  pub is : slice_get pass.receipts (length pass.receipts - 1) ≡ Some line

abbrev pub sums : List Run → Sums
sums runs = record {
  evaluated = sum_by (λ run. run.counts.evaluated) runs;
  given_back = sum_by (λ run. run.counts.given_back) runs;
  refused = sum_by (λ run. run.counts.refused) runs;
}

-- what is shown of an answer
abbrev pub Shows : List PassView → Outcome → Answer → Type 0
Shows passes (outcomes.Made seat) (Made line) = IsLastAt seat passes line
Shows passes (outcomes.NotTaken why) (NotTaken reported) = reported ≡ why
Shows passes (outcomes.Worked counted) (Worked runs) = counted ≡ sums runs
Shows passes outcome answer = ⊥

-- a call of the session at this seat, of a command that has P, was made by an entry, or by none
abbrev pub IsCall : ℕ → (Said → Type 0) → Answer → Type 0
IsCall seat P (Made line) = (line.seat ≡ seat) × P line.said × IsRight line.reply
IsCall seat P (NotTaken why) = (said : Said) × P said
IsCall seat P (Worked runs) = ⊥

-- an answer of which this is shown has P, and the passes are what it makes of them
pub record IsAnswered (before after : List PassView) (outcome : Outcome) (P : Answer → Type 0) : Type 0 where
  pub answer : Answer
  pub shows : Shows after outcome answer
  pub become : Become answer before after
  pub is : P answer

-- how a script ended, as a result of `serve`
abbrev pub ending : Result (Result (Unit {0}) ScriptFault) Failed → Result (Unit {0}) ServeFault
ending (Ok (Ok done)) = Ok done
ending (Ok (Err reading.Read)) = Err faults.Read
ending (Ok (Err (reading.BadLine line))) = Err (faults.BadLine line)
ending (Ok (Err reading.NoMemory)) = Err faults.NoMemory
ending (Err failed) = Err faults.Write

-- a result of `serve` that comes of this end of a script
abbrev pub Follows : Result (Unit {0}) ServeFault → Result (Unit {0}) ServeFault → Type 0
Follows end (Ok done) = end ≡ Ok tt
Follows end (Err (faults.Finish cause)) = end ≡ Ok tt
Follows end (Err faults.Write) = Unit {0}
Follows end (Err fault) = end ≡ Err fault

-- Behind any text that was written of answering a script, what is to follow is reported.
abbrev pub EndsWith : ℕ → List Call → Option (List ℕ) → Option (List ℕ) → Result (Unit {0}) ServeFault → Result (Unit {0}) ServeFault → Type 0
EndsWith workers calls held new end result = (old : Option (List ℕ)) → (text : List ℕ) → Tells old held end text
    → (closing : List ℕ) × Closes workers calls result closing × Tells old new result (text ++ closing)
