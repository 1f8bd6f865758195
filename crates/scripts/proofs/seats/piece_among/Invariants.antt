use Rattle.std.proofs.Common.{length}
use Rattle.scripts.specs.Serving.{GivesNone}
use Rattle.scripts.proofs.Pieces.{IsFront}
use Rattle.scripts.proofs.seats.piece_among.Given as goal

-- those that are left are a front of the receipts, and none behind them gives the piece
abbrev pub invariant-loop-last : goal.invariant-loop-last
invariant-loop-last l = (GivesNone l.claim l.rest → GivesNone l.claim l.receipts) × IsFront l.rest l.receipts

abbrev pub decreases-loop-last : goal.decreases-loop-last
decreases-loop-last l = length l.rest
