use Rattle.std.proofs.Common.{take}
use Rattle.inputs.specs.Loaded.{AreCases}
use Rattle.inputs.proofs.models.Models.cases.Given as goal

abbrev pub invariant-loop-place : goal.invariant-loop-place
invariant-loop-place l = AreCases l.path (take l.place l.self.names) (take l.place l.self.digests) l.cases.items
