use Rattle.std.proofs.Common.{take}
use Rattle.suite.specs.Models.{AreFiles}
use Rattle.suite.proofs.loading.read_files.Given as goal

abbrev pub invariant-loop-place : goal.invariant-loop-place
invariant-loop-place l = AreFiles (take l.place l.texts) l.files
