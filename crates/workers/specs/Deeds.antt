-- What can be refused a worker.
use Rattle.journal.specs.declared.records.Said.{Said}
use Rattle.slices.specs.Parts.{PieceValue}

-- a call with this command, or the evaluation of this piece
pub data Deed : Type 0 where
  call : Said → Deed
  evaluation : PieceValue → Deed
