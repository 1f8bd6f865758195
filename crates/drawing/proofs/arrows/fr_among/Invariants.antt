use Rattle.std.proofs.Common.{◌≡◌, ◌++◌, drop}
use Rattle.std.specs.Prelude.{flat_map}
use Rattle.drawing.specs.Arrows.{overtaken}
use Rattle.drawing.proofs.arrows.fr_among.Given as goal

abbrev pub invariant-loop-read : goal.invariant-loop-read
invariant-loop-read l = l.arrows.items ++ flat_map (overtaken l.co) (drop l.read-index l.rf) ≡ flat_map (overtaken l.co) l.rf
