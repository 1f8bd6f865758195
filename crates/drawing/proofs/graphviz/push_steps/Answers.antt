use Rattle.std.proofs.Common.{◌+◌, ◌++◌, drop, ap, refl, sym}
use Rattle.drawing.specs.Dots.{step_lines, steps_lines}
use Rattle.drawing.specs.declared.drawing.Step.{Step}
use Rattle.drawing.proofs.Adding.{added, all_added}
use Rattle.drawing.proofs.graphviz.push_steps.Goals as goal

pub loop-step-preserved : goal.loop-step-preserved
loop-step-preserved c =
    let s = c.args.scene.now in
    let ps = c.args.steps.now in
    let i = c.loop-step.step-index in
    let last = c.loop-step.last in
    added (steps_lines s last) (steps_lines s c.step-item.result.to) ps i c.step-item.result _ c.loop-step.out.items c.push_step.new.out.items _ c.loop-step-test.true
    (ap (λ (p : Step). step_lines s last p ++ steps_lines s p.to (drop (i + 1) ps)) (sym c.step-item.is)) c.in_ok-push_step.ensures c.loop-step.invariant

pub returns : goal.returns
returns c = all_added (steps_lines c.args.scene.now c.loop-step.last) c.args.steps.now c.loop-step.step-index c.loop-step.out.items _ c.loop-step-test.false refl c.loop-step.invariant
