use Rattle.std.proofs.Common.{◌⊎◌, List, get_or, take, refl, sym, subst, arith}
use Rattle.std.proofs.lemmas.List.{take_more, take_all}
use Rattle.relations.specs.Relation.{In, IsExactly}
use Rattle.events.specs.declared.event.EventId.{EventId}
use Rattle.events.specs.declared.event.EventId.TheVariants.{Initial}
use Rattle.events.specs.Named.{event_count}
use Rattle.events.specs.Rows.{ByNumbers, AreTwoOf}
use Rattle.events.proofs.Opening.{others_begun, others_on}
use Rattle.events.proofs.view.numbered.Numbered.relate_others.Goals as goal

pub loop-event-init : goal.loop-event-init
loop-event-init c = others_begun (event_count c.args.self.now) c.args.self.now c.args.others.now c.args.rel.now c.requires.count c.requires.canonical

pub loop-event-preserved : goal.loop-event-preserved
loop-event-preserved c =
    let g = c.args.self.now in
    let n = event_count g in
    let events = c.args.events.now in
    let m = c.loop-event.event-index in
    let P : List EventId → Type 0 = λ ds. IsExactly n (λ i j. In c.args.rel.now i j ⊎ ByNumbers g (AreTwoOf ds c.args.others.now) i j) c.relate_other.new.rel in
    subst P (sym (take_more events m (Initial 0) c.loop-event-test.true))
    (others_on n g (take m events) c.args.others.now (get_or events m (Initial 0)) c.numbers_of-numbers.result c.args.rel.now c.loop-event.rel c.relate_other.new.rel refl
    c.numbers_of-numbers.ensures c.loop-event.invariant c.relate_other.ensures)

pub returns : goal.returns
returns c =
    let g = c.args.self.now in
    let P : List EventId → Type 0 = λ ds. IsExactly (event_count g) (λ i j. In c.args.rel.now i j ⊎ ByNumbers g (AreTwoOf ds c.args.others.now) i j) c.loop-event.rel in
    subst P (take_all c.loop-event.event-index c.args.events.now (omega (arith, c.loop-event-test.false))) c.loop-event.invariant
