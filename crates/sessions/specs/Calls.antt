-- What a call adds.
use Rattle.std.specs.Prelude.{◌≡◌, ◌++◌, ◌∷◌, [], length}
use Rattle.journal.specs.Lines.{Line}
use Rattle.journal.specs.declared.records.Said.{Said}
use Rattle.book.specs.Kept.{Kept}
use Rattle.book.specs.Step.{Step}
use Rattle.sessions.specs.Views.{PassView}

-- The pass has one receipt more, of its seat and of this command.
pub record Adds (before now : PassView) (said : Said) : Type 0 where
  pub line : Line
  pub of_seat : line.seat ≡ before.seat
  pub of_command : line.said ≡ said
  pub is : now ≡ record before { receipts = before.receipts ++ line ∷ [] }

-- The book makes a step at the pass's seat, whose entry is the journal's last and the pass's next receipt.
pub record Steps (book after : Kept) (before now : PassView) (said : Said) : Type 0 where
  pub line : Line
  pub place : line.place ≡ length book.journal
  pub of_seat : line.seat ≡ before.seat
  pub of_command : line.said ≡ said
  pub step : Step book.state line.seat line.said line.reply after.state
  pub journal : after.journal ≡ book.journal ++ line ∷ []
  pub receipt : now ≡ record before { receipts = before.receipts ++ line ∷ [] }
