use Rattle.std.proofs.Common.{Option, inl, inr, subst}
use Rattle.std.proofs.lemmas.Result.{IfOk-weaker}
use Rattle.events.specs.Executions.{GraphValue}
use Rattle.witness.specs.Witnesses.{IsFound, IsWitness}
use Rattle.outcome.proofs.explaining.explanation.Goals as goal

pub allowed-requires : goal.allowed-requires
allowed-requires c =
    let P : Option GraphValue → Type 0 = λ o. IsFound c.args.work.now.test (IsWitness c.args.work.now.test c.args.work.now.model.items c.args.has) o in
    subst P c.in-Some.is c.in_ok-graph.ensures

pub returns-in-Some : goal.returns-in-Some
returns-in-Some c = IfOk-weaker c.allowed.result _ _ (λ a f. inl f) c.allowed.ensures

pub returns-in-None : goal.returns-in-None
returns-in-None c =
    let P : Option GraphValue → Type 0 = λ o. IsFound c.args.work.now.test (IsWitness c.args.work.now.test c.args.work.now.model.items c.args.has) o in
    IfOk-weaker c.lacking.result _ _ (λ a f. inr (subst P c.in-None.is c.in_ok-graph.ensures, f)) c.lacking.ensures
