use Rattle.std.proofs.Common.{◌≡◌, ◌∙◌, [], length, get_or, ap, sym, arith}
use Rattle.std.proofs.lemmas.List.{take_all}
use Rattle.std.proofs.lemmas.List.Sums.{fold_more}
use Rattle.test_places.specs.Limits.{with_location, locations}
use Rattle.test_places.proofs.limits.locations.Goals as goal

pub loop-mark-preserved : goal.loop-mark-preserved
loop-mark-preserved c =
    let marks = c.args.marks.now in
    let i = c.loop-mark.mark-index in
    let mark = c.mark-item.result in
    c.in_ok-add_location.ensures ∙ ap (with_location c.loop-mark.names.items) c.mark-item.is ∙ ap (λ ns. with_location ns (get_or marks i mark)) c.loop-mark.invariant ∙ sym (fold_more with_location [] marks i mark c.loop-mark-test.true)

pub returns : goal.returns
returns c =
    let named : length c.loop-mark.names.items ≡ locations c.args.marks.now = ap length c.loop-mark.invariant ∙ ap locations (take_all c.loop-mark.mark-index c.args.marks.now c.loop-mark-test.false) in
    omega (arith, named, c.len.ensures)
