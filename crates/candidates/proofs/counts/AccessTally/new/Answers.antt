use Rattle.candidates.proofs.Adding.{tally_next}
use Rattle.std.proofs.Common.{◌≡◌, ◌∙◌, ap, arith}
use Rattle.candidates.specs.Groups.{tally_of}
use Rattle.candidates.proofs.counts.AccessTally.new.Goals as goal

pub loop-location-preserved : goal.loop-location-preserved
loop-location-preserved c =
    tally_next c.loop-location.location c.args.events.now c.loop-location.counts.items c.push.new.self.items c.count.result c.loop-location.invariant c.count.ensures.reads c.count.ensures.writes c.in_ok-push.ensures.items

pub returns : goal.returns
returns c =
    let all : c.loop-location.location ≡ c.args.locations = omega (arith, c.loop-location-test.false, c.loop-location.auto.location-end) in
    c.loop-location.invariant ∙ ap (λ n. tally_of n c.args.events.now) all
