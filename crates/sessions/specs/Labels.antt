-- What a printed fault has for a cause of `finish`: its number and its name.
use Rattle.std.specs.Prelude.{ℕ, List, codes}
use Rattle.sessions.specs.declared.ending.FinishCause.{FinishCause}
use Rattle.sessions.specs.declared.ending.FinishCause.TheVariants.{MissingPass, Mismatch}

abbrev pub finish_label : FinishCause → List ℕ
finish_label (MissingPass seat) = codes "91 MissingPass"
finish_label (Mismatch place) = codes "92 Mismatch"
