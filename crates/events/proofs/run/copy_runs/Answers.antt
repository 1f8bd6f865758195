use Rattle.std.proofs.Common.{◌∙◌, ◌++◌, ◌∷◌, [], get_or, ap, sym}
use Rattle.std.proofs.lemmas.List.{take_all, take_more}
use Rattle.events.proofs.run.copy_runs.Goals as goal

pub loop-run-preserved : goal.loop-run-preserved
loop-run-preserved c =
    let at = c.loop-run in
    let runs = c.args.runs.now in
    c.in_ok-push.ensures.items ∙ ap (λ r. at.copies.items ++ r ∷ []) (c.in_ok-copy.ensures ∙ c.run-item.is)
    ∙ ap (λ rs. rs ++ get_or runs at.run-index c.run-item.result ∷ []) at.invariant ∙ sym (take_more runs at.run-index c.run-item.result c.loop-run-test.true)

pub returns : goal.returns
returns c = c.loop-run.invariant ∙ take_all c.loop-run.run-index c.args.runs.now c.loop-run-test.false
