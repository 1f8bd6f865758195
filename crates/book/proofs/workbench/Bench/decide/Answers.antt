use Rattle.book.proofs.workbench.Bench.decide.Goals as goal

pub returns-clause-step : goal.returns-clause-step
returns-clause-step c = c.decide_open.ensures.step

pub returns-clause-ready : goal.returns-clause-ready
returns-clause-ready c = c.decide_open.ensures.ready
