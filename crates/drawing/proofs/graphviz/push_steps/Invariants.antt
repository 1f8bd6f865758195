use Rattle.std.proofs.Common.{◌≡◌, ◌++◌, drop}
use Rattle.drawing.specs.Dots.{steps_lines}
use Rattle.drawing.proofs.graphviz.push_steps.Given as goal

abbrev pub invariant-loop-step : goal.invariant-loop-step
invariant-loop-step l = l.out.items ++ steps_lines l.scene l.last (drop l.step-index l.steps) ≡ l.fn.out.items ++ steps_lines l.scene l.fn.first l.steps
