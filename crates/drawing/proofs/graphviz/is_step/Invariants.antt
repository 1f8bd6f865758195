use Rattle.std.proofs.Common.{◌≡◌, drop}
use Rattle.drawing.specs.Dots.{is_step}
use Rattle.drawing.proofs.graphviz.is_step.Given as goal

abbrev pub invariant-loop-step : goal.invariant-loop-step
invariant-loop-step l = is_step l.last (drop l.step-index l.steps) l.from l.to ≡ is_step l.fn.first l.steps l.from l.to
