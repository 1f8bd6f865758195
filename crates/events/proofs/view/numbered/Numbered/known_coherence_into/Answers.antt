use Rattle.std.proofs.Common.{◌∙◌, ap, refl, length, arith}
use Rattle.events.specs.Cuts.{cut_down, known_of, known_from}
use Rattle.events.specs.Named.{event_count}
use Rattle.events.proofs.Standing.{stands_item}
use Rattle.events.proofs.Cutting.{told_on, told_done, known_gathers}
use Rattle.events.proofs.view.numbered.Numbered.known_coherence_into.Goals as goal

pub loop-location-preserved : goal.loop-location-preserved
loop-location-preserved c =
    let e = c.co-order-items.ensures ∙ ap (λ g. g.co) c.self.view_is in
    let cut = c.args.cut.now in
    told_on (event_count c.args.self.now) c.args.self.now (known_of cut.locations cut.unplaced.now) c.loop-location.location c.writes.result.now c.loop-location.rel c.relate_known.new.rel
    (stands_item c.co-order-items.result.now c.args.self.now.co c.loop-location.location c.order-item.result c.writes.result.now e c.loop-location-test.true c.order-item.is c.writes.ensures)
    c.loop-location.invariant c.relate_known.ensures

pub returns : goal.returns
returns c =
    let g = c.args.self.now in
    let e = c.co-order-items.ensures ∙ ap (λ g. g.co) c.self.view_is in
    let cut = c.args.cut.now in
    told_done (event_count g) g (cut_down g cut) (known_of cut.locations cut.unplaced.now) (known_from cut.locations cut.unplaced.now) (known_gathers cut.locations cut.unplaced.now) refl refl
    c.loop-location.location c.loop-location.rel (omega (arith, ap length e, c.loop-location-test.false)) c.loop-location.invariant
