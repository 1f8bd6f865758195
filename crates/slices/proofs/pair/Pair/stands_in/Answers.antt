use Rattle.std.proofs.Common.{◌∙◌, sym, arith}
use Rattle.events.specs.declared.event.EventId.TheVariants.{Initial}
use Rattle.slices.proofs.Pairing.{event_found, two_part}
use Rattle.slices.proofs.pair.Pair.stands_in.Goals.{then-eq-2, else-eq-2}
use Rattle.slices.proofs.pair.Pair.stands_in.Goals as goal

pub returns-then-eq : goal.returns-then-eq
returns-then-eq c t =
    let order = c.args.order.now in
    let at = c.loop-write in
    let b = at.invariant t in
    two_part order b.0 at.write-index c.args.self.first c.args.self.second b.2 (event_found order at.write-index (Initial 0) c.args.self.second c.loop-write-test.true (sym c.eq.ensures ∙ c.if-eq.true)) b.1

pub loop-write-preserved : goal.loop-write-preserved
loop-write-preserved c =
    let order = c.args.order.now in
    let at = c.loop-write in
    elim c.if-eq-2.branch [
      | then-eq-2 w ↦ λ t. (at.write-index, omega arith, event_found order at.write-index (Initial 0) c.args.self.first c.loop-write-test.true (sym c.eq-in-loop-write.ensures ∙ w.if-eq-2.true))
      | else-eq-2 w ↦ λ t. (let b = at.invariant (sym w.begun-is ∙ t) in (b.0, (let l = b.1 in omega (arith, l)), b.2))
    ]
