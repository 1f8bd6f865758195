use Rattle.slices.proofs.PassedOver.{forbidden}
use Rattle.slices.proofs.pruning.Pruner.ask.Goals as goal

pub returns-clause-forbidden : goal.returns-clause-forbidden
returns-clause-forbidden c =
    let block = c.in-Some.block in
    forbidden c.args.evaluator.now.items c.args.walk.now block.end c.graph.result.now block.cut c.graph.ensures
    c.in-Some.ensures.within.0 c.in-Some.ensures.extend (c.in_ok-refutes.ensures.refuted c.if-not-branch.false)
