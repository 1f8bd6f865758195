use Rattle.std.proofs.Common.{◌≡◌, ◌++◌, drop}
use Rattle.std.specs.Prelude.{flat_map}
use Rattle.drawing.specs.Arrows.{steps}
use Rattle.drawing.proofs.arrows.co_arrows.Given as goal

abbrev pub invariant-loop-order : goal.invariant-loop-order
invariant-loop-order l = l.arrows.items ++ flat_map steps (drop l.order-index l.orders) ≡ flat_map steps l.orders
