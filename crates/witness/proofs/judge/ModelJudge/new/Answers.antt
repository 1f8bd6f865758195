use Rattle.witness.proofs.judge.ModelJudge.new.Goals as goal

pub returns-clause-known : goal.returns-clause-known
returns-clause-known c = λ s. c.new-pruner.ensures.known s c.in_ok-evaluator.evaluator.items
