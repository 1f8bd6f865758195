use Rattle.std.proofs.Common.{◌∙◌, sym, refl, arith}
use Rattle.std.proofs.lemmas.List.{take_all}
use Rattle.events.proofs.run.are_same_events.Goals as goal

pub returns : goal.returns
returns c =
    let at = c.loop-place.place in
    let first = take_all at c.args.first.now c.loop-place-test.false in
    let second = take_all at c.args.second.now (omega (arith, c.loop-place-test.false, c.if-first-second.false)) in
    (λ h. sym first ∙ c.loop-place.invariant ∙ second, λ h. refl)
