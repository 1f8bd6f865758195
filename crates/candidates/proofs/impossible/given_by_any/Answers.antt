use Rattle.std.proofs.Common.{List, subst}
use Rattle.std.proofs.lemmas.List.{take_all}
use Rattle.events.specs.declared.event.Event.{Event}
use Rattle.events.specs.Executions.{ThreadRun}
use Rattle.listings.specs.Lists.{IsIn}
use Rattle.candidates.specs.Impossible.{AreGiven}
use Rattle.candidates.proofs.Needed.{runs_next}
use Rattle.candidates.proofs.impossible.given_by_any.Goals as goal

pub loop-run-init : goal.loop-run-init
loop-run-init c = λ run m. absurd m

pub loop-run-preserved : goal.loop-run-preserved
loop-run-preserved c =
    let P : List Event → Type 0 = λ es. AreGiven c.args.stores.now es c.given_by_all-numbers.result in
    runs_next c.args.stores.now c.args.runs.now c.loop-run.run-index c.run-item.result c.loop-run.numbers c.given_by_all-numbers.result c.loop-run-test.true c.run-item.is (subst P c.events.ensures c.given_by_all-numbers.ensures) c.loop-run.invariant

pub returns : goal.returns
returns c =
    let P : List ThreadRun → Type 0 = λ rs. (run : ThreadRun) → IsIn run rs → AreGiven c.args.stores.now run.events c.loop-run.numbers in
    subst P (take_all c.loop-run.run-index c.args.runs.now c.loop-run-test.false) c.loop-run.invariant
