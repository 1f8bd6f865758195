use Rattle.std.proofs.Common.{List, [], subst, sym}
use Rattle.std.proofs.lemmas.List.{take_all}
use Rattle.std.proofs.lemmas.Result.{IfOk-from_err}
use Rattle.events.specs.declared.event.Event.{Event}
use Rattle.events.specs.Executions.{ThreadRun}
use Rattle.listings.specs.Lists.{ForEach}
use Rattle.candidates.specs.declared.impossible.Needs.{Needs}
use Rattle.candidates.specs.Impossible.{AreNeeds}
use Rattle.candidates.proofs.Needed.{each_next}
use Rattle.candidates.proofs.impossible.needs_of.Goals as goal

pub loop-run-init : goal.loop-run-init
loop-run-init c =
    let R : ThreadRun → Needs → Type 0 = λ run n. AreNeeds c.args.init.now c.args.stores.now run.events n in
    let P : List Needs → Type 0 = λ ns. ForEach R [] ns in
    subst P (sym c.in_ok-needs.ensures.items) tt

pub loop-run-preserved : goal.loop-run-preserved
loop-run-preserved c =
    let R : ThreadRun → Needs → Type 0 = λ run n. AreNeeds c.args.init.now c.args.stores.now run.events n in
    let P : List Event → Type 0 = λ es. AreNeeds c.args.init.now c.args.stores.now es c.of.result in
    each_next R c.args.runs.now c.loop-run.run-index c.run-item.result c.loop-run.needs.items c.push.new.self.items c.of.result c.loop-run-test.true c.run-item.is c.in_ok-push.ensures.items (subst P c.events.ensures c.of.ensures) c.loop-run.invariant

pub returns-in_err-needs : goal.returns-in_err-needs
returns-in_err-needs c = IfOk-from_err c.from_residual.result _ c.from_residual.ensures.0

pub returns-in_err-push : goal.returns-in_err-push
returns-in_err-push c = IfOk-from_err c.from_residual-in_err-push.result _ c.from_residual-in_err-push.ensures.0

pub returns : goal.returns
returns c =
    let R : ThreadRun → Needs → Type 0 = λ run n. AreNeeds c.args.init.now c.args.stores.now run.events n in
    let P : List ThreadRun → Type 0 = λ rs. ForEach R rs c.loop-run.needs.items in
    subst P (take_all c.loop-run.run-index c.args.runs.now c.loop-run-test.false) c.loop-run.invariant
