use Rattle.suite.proofs.Told.{file_told}
use Rattle.suite.proofs.loading.read_file.Goals as goal

pub returns-in-Err-clause-cause : goal.returns-in-Err-clause-cause
returns-in-Err-clause-cause c = file_told _ _ _ _ _ c.in-Err.is c.read_cat.ensures.only c.read_cat.ensures.cause c.of_text.ensures
