use Rattle.litmus_value.proofs.test.Test.values.Goals as goal

pub returns-in-Ok-clause-each : goal.returns-in-Ok-clause-each
returns-in-Ok-clause-each c = rw (c.initial.ensures, c.threads.ensures.value) at c.in-Ok.ensures.each
