use Rattle.std.proofs.Common.{List, subst}
use Rattle.std.proofs.lemmas.List.{take_all}
use Rattle.events.specs.Executions.{ThreadRun}
use Rattle.listings.specs.Lists.{IsIn}
use Rattle.candidates.specs.Impossible.{AreGiven, AreGivenBy}
use Rattle.candidates.proofs.Needed.{threads_next}
use Rattle.candidates.proofs.impossible.given_behind.Goals as goal

pub loop-thread-init : goal.loop-thread-init
loop-thread-init c = λ runs run m n. absurd m

pub loop-thread-preserved : goal.loop-thread-preserved
loop-thread-preserved c =
    let P : List ThreadRun → Type 0 = λ rs. (run : ThreadRun) → IsIn run rs → AreGiven c.args.stores.now run.events c.given_by_any-numbers.result in
    threads_next c.args.stores.now c.args.threads.now c.loop-thread.thread-index c.thread-item.result c.loop-thread.numbers c.given_by_any-numbers.result c.loop-thread-test.true c.thread-item.is (subst P c.runs.ensures c.given_by_any-numbers.ensures) c.loop-thread.invariant

pub returns : goal.returns
returns c =
    let P : List (List ThreadRun) → Type 0 = λ ts. AreGivenBy c.args.stores.now ts c.loop-thread.numbers in
    subst P (take_all c.loop-thread.thread-index c.args.threads.now c.loop-thread-test.false) c.loop-thread.invariant
