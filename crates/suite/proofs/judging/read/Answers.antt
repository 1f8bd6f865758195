use Rattle.suite.proofs.Told.{test_told}
use Rattle.suite.proofs.judging.read.Goals as goal

pub returns-in-Err-clause-cause : goal.returns-in-Err-clause-cause
returns-in-Err-clause-cause c = test_told _ _ _ _ c.in-Err.is c.read_test.ensures.only c.read_test.ensures.cause c.of_test.ensures
