use Rattle.std.proofs.Common.{◌≡◌, ◌++◌, drop}
use Rattle.std.specs.Prelude.{flat_map}
use Rattle.drawing.specs.Texts.{step_text}
use Rattle.drawing.proofs.lines.push_steps.Given as goal

abbrev pub invariant-loop-step : goal.invariant-loop-step
invariant-loop-step l = l.out.items ++ flat_map (step_text l.scene) (drop l.step-index l.steps) ≡ l.fn.out.items ++ flat_map (step_text l.scene) l.steps
