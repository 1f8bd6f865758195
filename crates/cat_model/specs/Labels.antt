-- What a printed refusal has for files that give no model: its number and its name.
use Rattle.std.specs.Prelude.{ℕ, List, codes}
use Rattle.cat_model.specs.declared.fault.ModelFault.{ModelFault}
use Rattle.cat_model.specs.declared.fault.ModelFault.TheVariants.{NoCat, NoInclude, IncludeCycle, Unbound, WrongSort, NotMonotone, FlagWithoutName, ModelTooLarge, CallsTooLarge, NoMemory}

abbrev pub model_label : ModelFault → List ℕ
model_label (NoCat name) = codes "61 NoCat"
model_label (NoInclude name) = codes "62 NoInclude"
model_label (IncludeCycle name) = codes "63 IncludeCycle"
model_label (Unbound name) = codes "64 Unbound"
model_label (WrongSort name) = codes "65 WrongSort"
model_label (NotMonotone name) = codes "66 NotMonotone"
model_label FlagWithoutName = codes "67 FlagWithoutName"
model_label ModelTooLarge = codes "68 ModelTooLarge"
model_label (CallsTooLarge name) = codes "69 CallsTooLarge"
model_label NoMemory = codes "NoMemory"
