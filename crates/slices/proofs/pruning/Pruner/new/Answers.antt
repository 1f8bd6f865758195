use Rattle.std.proofs.Common.{arith}
use Rattle.slices.proofs.pruning.Pruner.new.Goals as goal

pub returns : goal.returns
returns c = record { known = λ s items. ((λ m l u x at. absurd (omega (arith, u))), c.new-2.ensures s items) }
