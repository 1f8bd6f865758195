use Rattle.std.proofs.Common.{List, [], subst}
use Rattle.std.proofs.lemmas.List.{take_all}
use Rattle.events.specs.declared.event.Event.{Event}
use Rattle.candidates.specs.Impossible.{AreGiven, AreWanted}
use Rattle.candidates.proofs.Needed.{given_next, no_wants, wanted_next}
use Rattle.candidates.proofs.impossible.Needs.of.Goals as goal

pub loop-event-init : goal.loop-event-init
loop-event-init c = record { wants = no_wants c.args.init.now c.args.stores.now []; gives = λ e m k. absurd m }

pub loop-event-preserved : goal.loop-event-preserved
loop-event-preserved c =
    let at = c.loop-event in
    let e = c.event-item.result in
    let l = c.loop-event-test.true in
    record {
      wants = wanted_next c.args.init.now c.args.stores.now c.args.events.now at.event-index e at.wants c.wanted-wants.result l c.event-item.is c.wanted-wants.ensures at.invariant.wants;
      gives = given_next c.args.stores.now c.args.events.now at.event-index e at.gives c.given-gives.result l c.event-item.is c.given-gives.ensures at.invariant.gives;
    }

pub returns : goal.returns
returns c =
    let at = c.loop-event in
    let end = take_all at.event-index c.args.events.now c.loop-event-test.false in
    let P : List Event → Type 0 = λ es. AreWanted c.args.init.now c.args.stores.now es at.wants in
    let Q : List Event → Type 0 = λ es. AreGiven c.args.stores.now es at.gives in
    record { wants = subst P end at.invariant.wants; gives = subst Q end at.invariant.gives }
