use Rattle.std.proofs.Common.{arith}
use Rattle.events.specs.Named.{event_count}
use Rattle.events.proofs.Grouping.{locations_full}
use Rattle.events.proofs.view.numbered.Numbered.locations_into.Goals as goal

pub returns : goal.returns
returns c =
    locations_full (event_count c.args.self.now) c.loop-number.number c.args.self.now c.loop-number.rel c.loop-number.invariant
    (λ l. (let z : ⊥ = omega (arith, l, c.count-size.ensures.is, c.loop-number-test.false) in z))
