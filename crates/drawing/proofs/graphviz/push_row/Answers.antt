use Rattle.std.specs.Prelude.{codes}
use Rattle.drawing.specs.declared.group.Group.TheVariants.{InitialWrites}
use Rattle.drawing.specs.Dots.{initial_row, nodes}
use Rattle.drawing.proofs.Adding.{three}
use Rattle.drawing.proofs.graphviz.push_row.Goals as goal

pub returns : goal.returns
unfolding initial_row
returns c =
    three c.push_bytes-2.result c.args.out.now.items c.push_bytes.new.out.items c.push_nodes.new.out.items c.push_bytes-2.new.out.items
    (codes "  {\n    rank=same\n    start [style=invis, width=0, label=\"\"]\n")
    (nodes c.args.scene.now InitialWrites)
    (codes "  }\n") c.in_ok-push_bytes.ensures c.in_ok-push_nodes.ensures c.push_bytes-2.ensures
