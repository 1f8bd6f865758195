use Rattle.std.proofs.Common.{◌≡◌, ◌++◌, drop}
use Rattle.drawing.specs.Arrows.{overtaken}
use Rattle.drawing.proofs.arrows.push_overtaken.Given as goal

abbrev pub invariant-loop-step : goal.invariant-loop-step
invariant-loop-step l = l.arrows.items ++ overtaken (drop l.step-index l.co) l.read ≡ l.fn.arrows.items ++ overtaken l.co l.read
