use Rattle.std.proofs.Common.{◌≡◌, ◌++◌, drop}
use Rattle.std.specs.Prelude.{flat_map}
use Rattle.drawing.specs.Dots.{node_line}
use Rattle.drawing.proofs.graphviz.push_nodes.Given as goal

abbrev pub invariant-loop-event : goal.invariant-loop-event
invariant-loop-event l = l.out.items ++ flat_map (node_line l.scene) (drop l.event-index l.event-items) ≡ l.fn.out.items ++ flat_map (node_line l.scene) l.event-items
