use Rattle.std.proofs.Common.{List, subst}
use Rattle.std.proofs.lemmas.List.{take_all}
use Rattle.events.specs.declared.event.Event.{Event}
use Rattle.candidates.specs.Impossible.{AreGiven}
use Rattle.candidates.proofs.Needed.{given_next}
use Rattle.candidates.proofs.impossible.given_by_all.Goals as goal

pub loop-event-init : goal.loop-event-init
loop-event-init c = λ e m k. absurd m

pub loop-event-preserved : goal.loop-event-preserved
loop-event-preserved c = given_next c.args.stores.now c.args.events.now c.loop-event.event-index c.event-item.result c.loop-event.numbers c.given-numbers.result c.loop-event-test.true c.event-item.is c.given-numbers.ensures c.loop-event.invariant

pub returns : goal.returns
returns c =
    let P : List Event → Type 0 = λ es. AreGiven c.args.stores.now es c.loop-event.numbers in
    subst P (take_all c.loop-event.event-index c.args.events.now c.loop-event-test.false) c.loop-event.invariant
