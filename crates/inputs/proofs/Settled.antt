-- What is told of a test that is waited for no more.
use Rattle.std.proofs.Common.{ℕ, List, Result, Ok, Err}
use Rattle.std.specs.Prelude.{OnOk}
use Rattle.cat_model.specs.Models.{Assembly}
use Rattle.slices.specs.VerdictValues.{VerdictValue}
use Rattle.suite.specs.Judged.{HasNone, HasVerdicts}
use Rattle.suite.specs.declared.fault.TestTrouble.{TestTrouble}
use Rattle.outcome.specs.declared.counts.Fate.TheVariants.{Judged, Refused}
use Rattle.outcome.specs.declared.told.Told.{Told}
use Rattle.inputs.specs.Loaded.{AreLoaded}
use Rattle.inputs.specs.Telling.{IsTold, TellsRefusal, TellsVerdicts, stage_of}
use Rattle.inputs.specs.declared.test.Asked.{Asked}

-- of right verdicts, where there was memory to tell them
pub judged_told : {A E : Type 0} (M : ℕ → Type 0) (n : ℕ) (a : Asked) (path text : List ℕ) (models : List Assembly) (vs : List VerdictValue) (r : Result A E) (old new : Told)
    → M n → AreLoaded models a.models.now.names a.models.now.digests → HasVerdicts text models vs → OnOk r (TellsVerdicts a n path text vs old new)
    → IsTold M a path text (stage_of Judged r) old new
judged_told M n a path text models vs (Ok x) old new time loaded right told = record { milliseconds = n; time = time; models = models; loaded = loaded; verdicts = vs; right = right; told = told }
judged_told M n a path text models vs (Err e) old new time loaded right told = tt

-- of a text without verdicts
pub refused_told : {A E : Type 0} (M : ℕ → Type 0) (n : ℕ) (a : Asked) (path text : List ℕ) (trouble : TestTrouble) (r : Result A E) (old new : Told)
    → M n → HasNone text trouble → OnOk r (TellsRefusal a n path text trouble old new)
    → IsTold M a path text (stage_of Refused r) old new
refused_told M n a path text trouble (Ok x) old new time cause told = record { milliseconds = n; time = time; trouble = trouble; cause = cause; told = told }
refused_told M n a path text trouble (Err e) old new time cause told = tt
