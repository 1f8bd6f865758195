-- What one turn of a worker adds.
use Rattle.std.specs.Prelude.{◌≡◌, ℕ, ◌<◌, ◌≤◌, List, ◌++◌, length, Some}
use Rattle.slices.specs.Parts.{PieceValue}
use Rattle.journal.specs.Lines.{Line}
use Rattle.sessions.specs.Views.{PassView}
use Rattle.workers.specs.Deeds.{Deed}
use Rattle.workers.specs.Replies.{last_piece}
use Rattle.workers.specs.Trace.{Stage, Free, Holds, stage_after, returns, given_back, IsWorkUnder}
use Rattle.workers.specs.declared.working.Form.{Form}
use Rattle.workers.specs.declared.working.Turn.{Turn}
use Rattle.workers.specs.declared.working.Turn.TheVariants.{Waited, Returned, Ended}

-- the worker may claim again, and so many returns are among these receipts
pub record GoesOn (form : Form) (stage : Stage) (number : ℕ) (added : List Line) : Type 0 where
  pub free : stage_after form stage added ≡ Free
  pub some : number ≤ length added
  pub returned : returns added ≡ number
  pub none : given_back added ≡ 0

abbrev pub Tells : (Deed → Type 0) → Form → Stage → Turn → List Line → Type 0
Tells refused form stage Waited added = GoesOn form stage 0 added × (0 < length added)
Tells refused form stage Returned added = GoesOn form stage 1 added × (0 < length added)
Tells refused form stage (Ended counts) added = IsWorkUnder refused form stage counts added × (counts.evaluated ≤ 1)

-- the receipts that a turn adds, from this stage on
pub record IsTurn (refused : Deed → Type 0) (form : Form) (stage : Stage) (before now : PassView) (turn : Turn) : Type 0 where
  pub added : List Line
  pub is : now ≡ record before { receipts = before.receipts ++ added }
  pub reported : Tells refused form stage turn added

-- those that follow the receipt of a piece
pub record Settles (refused : Deed → Type 0) (before now : PassView) (turn : Turn) : Type 0 where
  pub piece : PieceValue
  pub given : last_piece before.receipts ≡ Some piece
  pub turns : (form : Form) → IsTurn refused form (Holds piece) before now turn

-- a worker that may claim again, and that has returned so many pieces
pub record SoFar (form : Form) (before now : PassView) (number : ℕ) : Type 0 where
  pub added : List Line
  pub is : now ≡ record before { receipts = before.receipts ++ added }
  pub goes : GoesOn form Free number added
