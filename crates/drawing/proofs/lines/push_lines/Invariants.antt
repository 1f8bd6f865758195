use Rattle.std.proofs.Common.{◌≡◌, ◌++◌, drop}
use Rattle.std.specs.Prelude.{flat_map}
use Rattle.drawing.specs.Texts.{event_line}
use Rattle.drawing.proofs.lines.push_lines.Given as goal

abbrev pub invariant-loop-event : goal.invariant-loop-event
invariant-loop-event l = l.out.items ++ flat_map (event_line l.scene) (drop l.event-index l.event-items) ≡ l.fn.out.items ++ flat_map (event_line l.scene) l.event-items
