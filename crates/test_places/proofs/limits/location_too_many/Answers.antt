use Rattle.std.proofs.Common.{◌≡◌, ◌∙◌, ◌+◌, [], length, take, get_or, ap, sym, arith}
use Rattle.std.specs.Prelude.{fold}
use Rattle.std.proofs.lemmas.List.Sums.{fold_more}
use Rattle.test_places.specs.Limits.{with_location, locations}
use Rattle.test_places.proofs.Noting.{few_more}
use Rattle.test_places.proofs.limits.location_too_many.Goals as goal

pub loop-place-preserved : goal.loop-place-preserved
loop-place-preserved c =
    let marks = c.args.marks.now in
    let place = c.loop-place.place in
    let mark = c.index-marks-place.result in
    let names : c.add_location.new.names.items ≡ fold with_location [] (take (place + 1) marks) =
    c.in_ok-add_location.ensures ∙ ap (with_location c.loop-place.names.items) c.index-marks-place.is ∙ ap (λ ns. with_location ns (get_or marks place mark)) c.loop-place.invariant.names
    ∙ sym (fold_more with_location [] marks place mark c.loop-place-test.true) in
    record { names = names; few = few_more locations 8 marks place c.loop-place.invariant.few (omega (arith, c.len.ensures, ap length names)) }

pub returns-then-len-gt-MOST_NAMED : goal.returns-then-len-gt-MOST_NAMED
returns-then-len-gt-MOST_NAMED c =
    let marks = c.args.marks.now in
    let place = c.loop-place.place in
    let mark = c.index-marks-place.result in
    let names : c.add_location.new.names.items ≡ fold with_location [] (take (place + 1) marks) =
    c.in_ok-add_location.ensures ∙ ap (with_location c.loop-place.names.items) c.index-marks-place.is ∙ ap (λ ns. with_location ns (get_or marks place mark)) c.loop-place.invariant.names
    ∙ sym (fold_more with_location [] marks place mark c.loop-place-test.true) in
    record { within = c.loop-place-test.true; few = c.loop-place.invariant.few; many = omega (arith, c.if-len-gt-MOST_NAMED.true, c.len.ensures, ap length names) }
