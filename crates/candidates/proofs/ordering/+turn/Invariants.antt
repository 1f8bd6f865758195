use Rattle.std.proofs.Common.{length}
use Rattle.candidates.proofs.ordering.+turn.Given as goal

abbrev pub decreases-turn : goal.decreases-turn
decreases-turn l = length l.order.now
