-- What a printed refusal has for a text that is no test: its number and its name.
use Rattle.std.specs.Prelude.{ℕ, List, codes}
use Rattle.litmus_c.specs.declared.fault.TestFault.{TestFault}
use Rattle.litmus_c.specs.declared.fault.TestFault.TheVariants.{Text, Syntax, BadOrder, UnknownName, PlainOnAtomic, AtomicOnPlain, Unsupported, TooDeep, TooManyThreads, TooManyLocations, TooManyEvents, TooManyValues, ValueTooBig, NoMemory}

abbrev pub test_label : TestFault → List ℕ
test_label (Text fault) = codes "11 Text"
test_label (Syntax offset) = codes "12 Syntax"
test_label BadOrder = codes "13 BadOrder"
test_label UnknownName = codes "14 UnknownName"
test_label PlainOnAtomic = codes "15 PlainOnAtomic"
test_label AtomicOnPlain = codes "16 AtomicOnPlain"
test_label (Unsupported word) = codes "17 Unsupported"
test_label TooDeep = codes "18 TooDeep"
test_label TooManyThreads = codes "19 TooManyThreads"
test_label TooManyLocations = codes "20 TooManyLocations"
test_label TooManyEvents = codes "21 TooManyEvents"
test_label TooManyValues = codes "22 TooManyValues"
test_label ValueTooBig = codes "23 ValueTooBig"
test_label NoMemory = codes "NoMemory"
