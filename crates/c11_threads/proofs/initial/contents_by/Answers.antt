use Rattle.std.proofs.Common.{◌≡◌, ◌∙◌, ◌∷◌, [], ◌++◌, ℕ, ap}
use Rattle.conditions.specs.declared.place.Place.TheVariants.{Reg}
use Rattle.events.specs.Executions.{no_places}
use Rattle.c11_threads.specs.declared.content.Content.{Content}
use Rattle.c11_threads.specs.Runs.{initial_content}
use Rattle.c11_threads.proofs.Filling.{filled, all_filled}
use Rattle.c11_threads.proofs.initial.contents_by.Goals as goal

pub loop-name-preserved : goal.loop-name-preserved
loop-name-preserved c =
    let t = c.args.test.now in
    let k = c.args.thread in
    let name = c.name-item.result in
    let done = c.loop-name.contents.items in
    let holding : ℕ → Content = λ n. record { value = n; reads = no_places } in
    let made : c.in_ok-initial_content.field-0 ≡ initial_content t k name = c.in_ok-initial_content.ensures ∙ ap holding (c.requires.state (Reg k name)) in
    let more = c.in_ok-push.ensures.items ∙ ap (λ (w : Content). done ++ (w ∷ [])) (made ∙ ap (initial_content t k) c.name-item.is) in
    filled (initial_content t k) c.registers-name-items.result.now c.loop-name.name-index name done c.push.new.self.items _ c.loop-name-test.true more c.loop-name.invariant

pub returns : goal.returns
returns c = all_filled (initial_content c.args.test.now c.args.thread) c.registers-name-items.result.now c.loop-name.name-index c.loop-name.contents.items _ c.loop-name-test.false c.loop-name.invariant
