use Rattle.std.specs.Prelude.{codes}
use Rattle.drawing.specs.Telling.{called}
use Rattle.drawing.specs.Dots.{below_line}
use Rattle.drawing.proofs.Adding.{three}
use Rattle.drawing.proofs.graphviz.push_below.Goals as goal

pub returns : goal.returns
unfolding below_line
returns c =
    three c.push_bytes-2.result c.args.out.now.items c.push_bytes.new.out.items c.push_called.new.out.items c.push_bytes-2.new.out.items
    (codes "  start -> ")
    (called c.args.scene.now c.args.event)
    (codes " [style=invis, weight=0]\n") c.in_ok-push_bytes.ensures c.in_ok-push_called.ensures c.push_bytes-2.ensures
