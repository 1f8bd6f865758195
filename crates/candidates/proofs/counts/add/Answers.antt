use Rattle.std.proofs.Common.{arith}
use Rattle.candidates.proofs.Adding.{nowhere, small_sum, add_end, add_next}
use Rattle.candidates.proofs.counts.add.Goals as goal

pub overflow_add-one : goal.overflow_add-one
overflow_add-one c =
    let i = c.loop-location.location in
    let s = small_sum c.args.counts.now c.args.more.now i nowhere c.requires.small (omega (arith, c.loop-location-test.true, c.shorter-locations.ensures.own)) (omega (arith, c.loop-location-test.true, c.shorter-locations.ensures.other)) in
    omega (arith, s.0)

pub overflow_add-one-in-loop-location : goal.overflow_add-one-in-loop-location
overflow_add-one-in-loop-location c =
    let i = c.loop-location.location in
    let s = small_sum c.args.counts.now c.args.more.now i nowhere c.requires.small (omega (arith, c.loop-location-test.true, c.shorter-locations.ensures.own)) (omega (arith, c.loop-location-test.true, c.shorter-locations.ensures.other)) in
    omega (arith, s.1)

pub returns : goal.returns
returns c =
    add_end c.args.counts.now c.args.more.now c.loop-location.location c.loop-location.sums.items _
    (λ l. omega (arith, l, c.loop-location-test.false, c.shorter-locations.ensures.rest (omega (arith, l, c.loop-location-test.false)))) c.loop-location.invariant

pub loop-location-preserved : goal.loop-location-preserved
loop-location-preserved c =
    let i = c.loop-location.location in
    let l = c.loop-location-test.true in
    add_next c.args.counts.now c.args.more.now i c.loop-location.sums.items c.push.new.self.items _ (omega (arith, l, c.shorter-locations.ensures.own)) (omega (arith, l, c.shorter-locations.ensures.other)) c.in_ok-push.ensures.items c.loop-location.invariant
