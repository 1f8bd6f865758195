-- What a call adds to a pass, and what a worker reads off its reply.
use Rattle.std.specs.Prelude.{◌≡◌, ◌-◌, Bool, true, false, List, [], ◌∷◌, ◌++◌, length, Option, Some, None, slice_get, option_and_then}
use Rattle.journal.specs.declared.records.Said.{Said}
use Rattle.slices.specs.Parts.{PieceValue}
use Rattle.journal.specs.declared.records.Refusal.TheVariants.{Closed}
use Rattle.journal.specs.declared.records.Reply.{Reply}
use Rattle.journal.specs.declared.records.Reply.TheVariants.{Piece, Nothing, Done, Refused}
use Rattle.journal.specs.Lines.{Line, answers}
use Rattle.sessions.specs.Views.{PassView}
use Rattle.workers.specs.declared.calls.Claimed.{Claimed}
use Rattle.workers.specs.declared.calls.Claimed.TheVariants.{Held, Idle, Over}

-- the pass has one receipt more, of this command, whose reply tells this
pub record Replied (before after : PassView) (said : Said) (tells : Reply → Type 0) : Type 0 where
  pub line : Line
  pub is : after ≡ record before { receipts = before.receipts ++ line ∷ [] }
  pub of : line.said ≡ said
  pub kind : answers said line.reply ≡ true
  pub reported : tells line.reply

abbrev pub claimed_of : Reply → Claimed
claimed_of (Piece piece) = Held
claimed_of Nothing = Idle
claimed_of reply = Over

-- the book is not closed
abbrev pub goes_on : Reply → Bool
goes_on (Refused Closed) = false
goes_on reply = true

abbrev pub is_done : Reply → Bool
is_done Done = true
is_done reply = false

abbrev pub piece_of : Reply → Option PieceValue
piece_of (Piece piece) = Some piece
piece_of reply = None

-- the piece that the last receipt gave
abbrev pub last_piece : List Line → Option PieceValue
last_piece lines = option_and_then (λ line. piece_of line.reply) (slice_get lines (length lines - 1))
