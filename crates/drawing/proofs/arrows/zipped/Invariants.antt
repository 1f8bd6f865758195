use Rattle.std.proofs.Common.{◌≡◌, ◌++◌, drop}
use Rattle.std.specs.Prelude.{map, zip}
use Rattle.drawing.specs.Arrows.{arrow}
use Rattle.drawing.proofs.arrows.zipped.Given as goal

abbrev pub invariant-loop-write : goal.invariant-loop-write
invariant-loop-write l = l.arrows.items ++ map (λ p. arrow p.0 p.1) (zip (drop l.write-index l.writes) l.left) ≡ map (λ p. arrow p.0 p.1) (zip l.writes l.reads)
