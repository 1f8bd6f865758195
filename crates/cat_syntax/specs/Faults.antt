-- Faults of the text as faults of the reader.
use Rattle.wb_text.specs.declared.fault.TextFault.{TextFault}
use Rattle.wb_text.specs.declared.fault.TextFault.TheVariants as texts
use Rattle.cat_syntax.specs.declared.fault.CatFault.{CatFault}
use Rattle.cat_syntax.specs.declared.fault.CatFault.TheVariants.{Text, NoMemory}

-- want of memory, or a text that has no tokens
abbrev pub cause_of : TextFault → CatFault
cause_of texts.NoMemory = NoMemory
cause_of f = Text f
