use Rattle.suite.proofs.Told.{model_told}
use Rattle.suite.proofs.loading.load_model.Goals as goal

pub returns-clause-cause : goal.returns-clause-cause
returns-clause-cause c = model_told c.args.texts.now c.args.root.now c.in_ok-files.files c.in-Err.fault c.of_files.result c.in_ok-files.ensures.files c.in-Err.ensures.cause c.of_files.ensures
