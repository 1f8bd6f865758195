-- What a printed refusal has for a text that is no model: its number and its name.
use Rattle.std.specs.Prelude.{ℕ, List, codes}
use Rattle.cat_syntax.specs.declared.fault.CatFault.{CatFault}
use Rattle.cat_syntax.specs.declared.fault.CatFault.TheVariants.{Text, Syntax, Unsupported, TooDeep, TooLarge, NoMemory}

abbrev pub cat_label : CatFault → List ℕ
cat_label (Text fault) = codes "51 Text"
cat_label (Syntax offset) = codes "52 Syntax"
cat_label (Unsupported word) = codes "53 Unsupported"
cat_label TooDeep = codes "54 TooDeep"
cat_label TooLarge = codes "55 TooLarge"
cat_label NoMemory = codes "NoMemory"
