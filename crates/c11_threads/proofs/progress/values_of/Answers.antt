use Rattle.std.proofs.Common.{[], ◌∷◌, ◌++◌, ◌∙◌, ap}
use Rattle.c11_threads.specs.declared.content.Content.{Content}
use Rattle.c11_threads.proofs.Filling.{filled, all_filled}
use Rattle.c11_threads.proofs.progress.values_of.Goals as goal

pub loop-content-preserved : goal.loop-content-preserved
loop-content-preserved c =
    let done = c.loop-content.values.items in
    let more = c.in_ok-push.ensures.items ∙ ap (λ (w : Content). done ++ (w.value ∷ [])) c.content-item.is in
    filled (λ (w : Content). w.value) c.args.contents.now c.loop-content.content-index _ done c.push.new.self.items _ c.loop-content-test.true more c.loop-content.invariant

pub returns : goal.returns
returns c = all_filled (λ (w : Content). w.value) c.args.contents.now c.loop-content.content-index c.loop-content.values.items _ c.loop-content-test.false c.loop-content.invariant
