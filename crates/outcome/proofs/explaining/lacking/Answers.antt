use Rattle.std.proofs.Common.{Option, inl, inr, subst}
use Rattle.std.proofs.lemmas.Result.{IfOk-weaker}
use Rattle.events.specs.Executions.{GraphValue}
use Rattle.slices.specs.Questions.{IsAnswer}
use Rattle.witness.specs.Witnesses.{IsFound}
use Rattle.outcome.proofs.explaining.lacking.Goals as goal

pub forbidden-requires : goal.forbidden-requires
forbidden-requires c =
    let P : Option GraphValue → Type 0 = λ o. IsFound c.args.work.now.test (λ x. IsAnswer c.args.work.now.test x c.args.has) o in
    subst P c.in-Some.is c.in_ok-graph.ensures

pub returns-in-Some : goal.returns-in-Some
returns-in-Some c = IfOk-weaker c.forbidden.result _ _ (λ a f. inl f) c.forbidden.ensures

pub returns-in-None : goal.returns-in-None
returns-in-None c =
    let P : Option GraphValue → Type 0 = λ o. IsFound c.args.work.now.test (λ x. IsAnswer c.args.work.now.test x c.args.has) o in
    IfOk-weaker c.nothing.result _ _ (λ a e. inr (subst P c.in-None.is c.in_ok-graph.ensures, e.0, e.1)) c.nothing.ensures
