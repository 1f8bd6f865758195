use Rattle.std.proofs.Common.{◌∙◌, ap, map, sym, arith}
use Rattle.std.proofs.lemmas.List.{take_all}
use Rattle.candidates.specs.Outlines.{written}
use Rattle.candidates.proofs.threads.are_calm.Goals as goal

pub returns : goal.returns
returns c =
    let at = c.loop-place.place in
    let events = take_all at c.args.events.now c.loop-place-test.false in
    let others = take_all at c.args.others.now (omega (arith, c.loop-place-test.false, c.if-events-others.false)) in
    λ h. ap (map written) (sym events) ∙ c.loop-place.invariant ∙ ap (map written) others
