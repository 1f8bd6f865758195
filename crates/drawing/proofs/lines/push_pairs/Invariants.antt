use Rattle.std.proofs.Common.{◌≡◌, ◌++◌, drop}
use Rattle.std.specs.Prelude.{flat_map}
use Rattle.drawing.specs.Texts.{pair_text}
use Rattle.drawing.proofs.lines.push_pairs.Given as goal

abbrev pub invariant-loop-arrow : goal.invariant-loop-arrow
invariant-loop-arrow l = l.out.items ++ flat_map (pair_text l.scene) (drop l.arrow-index l.arrows) ≡ l.fn.out.items ++ flat_map (pair_text l.scene) l.arrows
