use Rattle.std.proofs.Common.{◌+◌, ◌++◌, drop, ap, refl, sym}
use Rattle.std.specs.Prelude.{flat_map}
use Rattle.drawing.specs.Texts.{step_text}
use Rattle.drawing.specs.declared.drawing.Step.{Step}
use Rattle.drawing.proofs.Adding.{added, all_added}
use Rattle.drawing.proofs.lines.push_steps.Goals as goal

pub loop-step-preserved : goal.loop-step-preserved
loop-step-preserved c =
    let ps = c.args.steps.now in
    let i = c.loop-step.step-index in
    let F = flat_map (step_text c.args.scene.now) in
    added F F ps i c.step-item.result _ c.loop-step.out.items c.push_step.new.out.items _ c.loop-step-test.true (ap (λ (p : Step). step_text c.args.scene.now p ++ F (drop (i + 1) ps)) (sym c.step-item.is)) c.in_ok-push_step.ensures c.loop-step.invariant

pub returns : goal.returns
returns c = all_added (flat_map (step_text c.args.scene.now)) c.args.steps.now c.loop-step.step-index c.loop-step.out.items _ c.loop-step-test.false refl c.loop-step.invariant
