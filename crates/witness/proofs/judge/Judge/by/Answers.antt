use Rattle.witness.proofs.judge.Judge.by.Goals as goal

pub returns-clause-known : goal.returns-clause-known
returns-clause-known c = c.in_ok-new.ensures.known
