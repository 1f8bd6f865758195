use Rattle.std.proofs.Common.{◌≡◌, ◌++◌, drop}
use Rattle.drawing.specs.Arrows.{links}
use Rattle.drawing.proofs.arrows.push_links.Given as goal

abbrev pub invariant-loop-event : goal.invariant-loop-event
invariant-loop-event l = l.arrows.items ++ links l.last (drop l.event-index l.others) ≡ l.fn.arrows.items ++ links l.fn.first l.others
