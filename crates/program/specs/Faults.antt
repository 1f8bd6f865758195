-- The fault that stands for one of a lower layer. Want of memory is one fault, wherever it arose.
use Rattle.wb_text.specs.declared.fault.ReadFault.{ReadFault}
use Rattle.wb_text.specs.declared.fault.ReadFault.TheVariants as of_reading
use Rattle.litmus_c.specs.declared.fault.TestFault.{TestFault}
use Rattle.litmus_c.specs.declared.fault.TestFault.TheVariants as of_test
use Rattle.cat_syntax.specs.declared.fault.CatFault.{CatFault}
use Rattle.cat_syntax.specs.declared.fault.CatFault.TheVariants as of_cat
use Rattle.cat_model.specs.declared.fault.ModelFault.{ModelFault}
use Rattle.cat_model.specs.declared.fault.ModelFault.TheVariants as of_model
use Rattle.candidates.specs.declared.fault.SpaceFault.{SpaceFault}
use Rattle.candidates.specs.declared.fault.SpaceFault.TheVariants as of_space
use Rattle.program.specs.declared.summary.OneFault.{OneFault}
use Rattle.program.specs.declared.summary.OneFault.TheVariants.{Read, Test, Cat, Model, Space, NoMemory}

abbrev pub read_fault : ReadFault → OneFault
read_fault of_reading.Failed = Read
read_fault of_reading.NoMemory = NoMemory

abbrev pub test_fault : TestFault → OneFault
test_fault of_test.NoMemory = NoMemory
test_fault f = Test f

abbrev pub cat_fault : CatFault → OneFault
cat_fault of_cat.NoMemory = NoMemory
cat_fault f = Cat f

abbrev pub model_fault : ModelFault → OneFault
model_fault of_model.NoMemory = NoMemory
model_fault f = Model f

abbrev pub space_fault : SpaceFault → OneFault
space_fault of_space.NoMemory = NoMemory
space_fault f = Space f
