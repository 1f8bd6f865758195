use Rattle.std.proofs.Common.{◌≡◌, ◌++◌, drop}
use Rattle.std.specs.Prelude.{flat_map}
use Rattle.std.specs.Prelude.{option_map}
use Rattle.drawing.specs.Dots.{plain_line}
use Rattle.drawing.proofs.graphviz.push_relation.Given as goal

abbrev pub invariant-loop-arrow : goal.invariant-loop-arrow
invariant-loop-arrow l = l.out.items ++ flat_map (plain_line l.scene (option_map (λ c. c.now) l.chain) l.relation) (drop l.arrow-index l.arrow-items) ≡ l.fn.out.items ++ flat_map (plain_line l.scene (option_map (λ c. c.now) l.chain) l.relation) l.arrow-items
