-- What a worker's receipts tell.
use Rattle.std.specs.Prelude.{◌≡◌, ℕ, zero, suc, ◌+◌, ◌-◌, ◌≤◌, ◌&&◌, ◌==◌, Bool, true, false, List, [], ◌∷◌, ◌++◌, count_by, if◌then◌else◌}
use Rattle.journal.specs.declared.records.Said.{Said}
use Rattle.journal.specs.declared.records.Said.TheVariants.{Claim, Return, GiveBack}
use Rattle.journal.specs.EntryCodes.{coded_returned}
use Rattle.slices.specs.Parts.{PieceValue}
use Rattle.slices.specs.Same.{same}
use Rattle.journal.specs.declared.records.Refusal.{Refusal}
use Rattle.journal.specs.declared.records.Refusal.TheVariants.{Closed, ClaimsSpent}
use Rattle.journal.specs.declared.records.Reply.{Reply}
use Rattle.journal.specs.declared.records.Reply.TheVariants.{Piece, Nothing, Refused}
use Rattle.journal.specs.Lines.{Line, shown}
use Rattle.sessions.specs.declared.passes.Counts.{Counts}
use Rattle.sessions.specs.Views.{PassView}
use Rattle.workers.specs.Deeds.{Deed, call, evaluation}
use Rattle.workers.specs.Replies.{is_done}
use Rattle.workers.specs.declared.working.Form.{Form}
use Rattle.workers.specs.declared.working.Form.TheVariants.{UntilIdle, UntilClosed}

-- where a worker stands: it may claim, it owes a return or a give-back of this piece, it has given this piece back, it has ended, or no worker comes here
pub data Stage : Type 0 where
  Free : Stage
  Holds : PieceValue → Stage
  Gave : PieceValue → Stage
  Ended : Stage
  Wrong : Stage

-- after a claim refused so
abbrev pub claim_refused : Refusal → Stage
claim_refused Closed = Ended
claim_refused ClaimsSpent = Ended
claim_refused refusal = Wrong

-- after a claim with this reply
abbrev pub claimed : Form → Reply → Stage
claimed form (Piece piece) = Holds piece
claimed UntilIdle Nothing = Ended
claimed UntilClosed Nothing = Free
claimed form (Refused refusal) = claim_refused refusal
claimed form reply = Wrong

-- after a return with this reply
abbrev pub returned : Reply → Stage
returned (Refused Closed) = Ended
returned reply = Free

-- after one call more: what is returned is of the piece's own claim, slice, range and work
abbrev pub after : Form → Stage → Said → Reply → Stage
after form Free Claim reply = claimed form reply
after form (Holds piece) (Return r) reply = if same coded_returned r (shown piece) then returned reply else Wrong
after form (Holds piece) (GiveBack number) reply = if number == piece.claim then Gave piece else Wrong
after form stage said reply = Wrong

-- after these receipts
abbrev pub stage_after : Form → Stage → List Line → Stage
stage_after form stage [] = stage
stage_after form stage (line ∷ lines) = stage_after form (after form stage line.said line.reply) lines

-- Why a piece was not returned, after so many returns that were refused: its evaluation was, or its one return.
abbrev pub Excuses : (Deed → Type 0) → ℕ → PieceValue → Type 0
Excuses refused zero piece = refused (evaluation piece)
Excuses refused (suc zero) piece = refused (call (Return (shown piece)))
Excuses refused (suc (suc n)) piece = ⊥

-- Where a worker stands at its end, after so many refused returns among so many refused calls. A refused claim ends it; a piece that it couldn't
-- return it has given back, or still holds where the give-back was refused, too.
abbrev pub EndsAt : (Deed → Type 0) → ℕ → ℕ → Stage → Type 0
EndsAt refused lost count Free = (lost ≡ 0) × (count ≡ 1) × refused (call Claim)
EndsAt refused lost count (Holds piece) = Excuses refused lost piece × (count ≡ lost + 1) × refused (call (GiveBack piece.claim))
EndsAt refused lost count (Gave piece) = Excuses refused lost piece × (count ≡ lost)
EndsAt refused lost count Ended = (lost ≡ 0) × (count ≡ 0)
EndsAt refused lost count Wrong = ⊥

abbrev pub is_return : Said → Bool
is_return (Return r) = true
is_return said = false

-- how many of them are returns
abbrev pub returns : List Line → ℕ
returns lines = count_by (λ line. is_return line.said) lines

abbrev pub is_give_back : Said → Bool
is_give_back (GiveBack number) = true
is_give_back said = false

-- how many of them are give-backs answered Done
abbrev pub given_back : List Line → ℕ
given_back lines = count_by (λ line. is_give_back line.said && is_done line.reply) lines

-- what the receipts and counts of a worker tell that stands here, and to whom such deeds were refused
pub record IsWorkUnder (refused : Deed → Type 0) (form : Form) (stage : Stage) (counts : Counts) (added : List Line) : Type 0 where
  -- a refused return has no receipt, and there is at most one
  pub least : returns added ≤ counts.evaluated
  pub most : counts.evaluated ≤ returns added + 1
  pub ended : EndsAt refused (counts.evaluated - returns added) counts.refused (stage_after form stage added)
  pub back : counts.given_back ≡ given_back added

-- the receipts that a pass had are a beginning of those that it has, and the rest is the work of one worker
pub record WorkedUnder (refused : Deed → Type 0) (form : Form) (before now : PassView) : Type 0 where
  pub added : List Line
  pub is : now ≡ record before { receipts = before.receipts ++ added; counts = now.counts }
  pub work : IsWorkUnder refused form Free now.counts added

-- a desk may refuse anything
abbrev pub anything : Deed → Type 0
anything deed = Unit {0}

abbrev pub IsWorkFrom : Form → Stage → Counts → List Line → Type 0
IsWorkFrom form stage counts added = IsWorkUnder anything form stage counts added

abbrev pub Worked : Form → PassView → PassView → Type 0
Worked form before now = WorkedUnder anything form before now
