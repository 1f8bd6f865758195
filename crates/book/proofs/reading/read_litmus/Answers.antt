use Rattle.litmus_c.specs.Reads.{Reads}
use Rattle.litmus_c.specs.declared.fault.TestFault.TheVariants.{NoMemory}
use Rattle.book.proofs.Readings.{only_err}
use Rattle.book.proofs.reading.read_litmus.Goals as goal

pub returns-clause-only : goal.returns-clause-only
returns-clause-only c = only_err (Reads c.args.text.now) NoMemory c.read_test.result c.read_test.ensures.only
