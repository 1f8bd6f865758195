use Rattle.std.proofs.Common.{[], ◌∷◌, ◌++◌, ◌∙◌, ap}
use Rattle.c11_threads.specs.declared.content.Content.{Content}
use Rattle.c11_threads.proofs.Filling.{copied, all_copied}
use Rattle.c11_threads.proofs.progress.copy_contents.Goals as goal

pub loop-content-preserved : goal.loop-content-preserved
loop-content-preserved c =
    let more = c.in_ok-push.ensures.items ∙ ap (λ (w : Content). c.loop-content.copies.items ++ (w ∷ [])) c.copy.ensures in
    copied c.args.contents.now c.loop-content.content-index c.content-item.result c.loop-content.copies.items c.push.new.self.items _
    c.loop-content-test.true c.content-item.is more c.loop-content.invariant

pub returns : goal.returns
returns c = all_copied c.args.contents.now c.loop-content.content-index c.loop-content.copies.items _ c.loop-content-test.false c.loop-content.invariant
