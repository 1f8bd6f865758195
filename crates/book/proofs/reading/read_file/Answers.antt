use Rattle.cat_syntax.specs.Reads.{Reads}
use Rattle.cat_syntax.specs.declared.fault.CatFault.TheVariants.{NoMemory}
use Rattle.book.proofs.Readings.{only_err}
use Rattle.book.proofs.reading.read_file.Goals as goal

pub returns-clause-only : goal.returns-clause-only
returns-clause-only c = only_err (Reads c.args.text.now) NoMemory c.read_cat.result c.read_cat.ensures.only
