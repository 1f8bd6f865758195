use Rattle.std.proofs.Common.{ap, sym, ◌∙◌, ◌++◌, ◌∷◌, [], map, get_or}
use Rattle.std.proofs.lemmas.List.{map_push, take_all, take_more}
use Rattle.drawing.specs.declared.drawing.Step.{Step}
use Rattle.outcome.proofs.evidence.steps_of.Goals as goal

pub loop-to-preserved : goal.loop-to-preserved
loop-to-preserved c =
    let rest = c.args.rest.now in
    let i = c.loop-to.to-index in
    ap (map (λ (s : Step). s.to)) c.in_ok-push.ensures.items ∙ map_push (λ (s : Step). s.to) c.loop-to.steps.items _
    ∙ ap (λ l. l ++ get_or rest i 0 ∷ []) c.loop-to.invariant ∙ sym (take_more rest i 0 c.loop-to-test.true)

pub returns : goal.returns
returns c = c.loop-to.invariant ∙ take_all c.loop-to.to-index c.args.rest.now c.loop-to-test.false
