-- The trouble that stands for a fault of a lower layer. Want of memory is one trouble, wherever it arose.
use Rattle.std.specs.Prelude.{ℕ}
use Rattle.litmus_c.specs.declared.fault.TestFault.{TestFault}
use Rattle.litmus_c.specs.declared.fault.TestFault.TheVariants as of_test
use Rattle.candidates.specs.declared.fault.SpaceFault.{SpaceFault}
use Rattle.candidates.specs.declared.fault.SpaceFault.TheVariants as of_space
use Rattle.cat_syntax.specs.declared.fault.CatFault.{CatFault}
use Rattle.cat_syntax.specs.declared.fault.CatFault.TheVariants as of_cat
use Rattle.cat_model.specs.declared.fault.ModelFault.{ModelFault}
use Rattle.cat_model.specs.declared.fault.ModelFault.TheVariants as of_model
use Rattle.suite.specs.declared.fault.ModelTrouble.{ModelTrouble}
use Rattle.suite.specs.declared.fault.ModelTrouble.TheVariants as models
use Rattle.suite.specs.declared.fault.TestTrouble.{TestTrouble}
use Rattle.suite.specs.declared.fault.TestTrouble.TheVariants as tests

abbrev pub text_trouble : ℕ → CatFault → ModelTrouble
text_trouble place of_cat.NoMemory = models.NoMemory
text_trouble place f = models.Text place f

abbrev pub files_trouble : ModelFault → ModelTrouble
files_trouble of_model.NoMemory = models.NoMemory
files_trouble f = models.Model f

abbrev pub test_trouble : TestFault → TestTrouble
test_trouble of_test.NoMemory = tests.NoMemory
test_trouble f = tests.Test f

abbrev pub space_trouble : SpaceFault → TestTrouble
space_trouble of_space.NoMemory = tests.NoMemory
space_trouble f = tests.Space f
