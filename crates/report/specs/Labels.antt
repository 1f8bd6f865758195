-- The number and the name of why a summary was not written whole.
use Rattle.std.specs.Prelude.{ℕ, List, codes}
use Rattle.report.specs.declared.summary.WriteFault.{WriteFault}
use Rattle.report.specs.declared.summary.WriteFault.TheVariants.{Write}

abbrev pub write_label : WriteFault → List ℕ
write_label Write = codes "95 Write"
