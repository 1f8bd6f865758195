use Rattle.std.proofs.Common.{◌≡◌, ◌++◌, drop}
use Rattle.std.specs.Prelude.{flat_map}
use Rattle.std.specs.Prelude.{codes}
use Rattle.drawing.proofs.lines.push_others.Given as goal

abbrev pub invariant-loop-name : goal.invariant-loop-name
invariant-loop-name l = l.out.items ++ flat_map (λ m. codes "," ++ m) (drop l.name-index l.names) ≡ l.fn.out.items ++ flat_map (λ m. codes "," ++ m) l.names
