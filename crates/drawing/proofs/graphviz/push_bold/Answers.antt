use Rattle.std.specs.Prelude.{codes}
use Rattle.drawing.specs.Naming.{name_of}
use Rattle.drawing.specs.Dots.{bold_line}
use Rattle.drawing.proofs.Adding.{three}
use Rattle.drawing.proofs.graphviz.push_bold.Goals as goal

pub returns : goal.returns
unfolding bold_line
returns c =
    three c.push_bytes-2.result c.args.out.now.items c.push_bytes.new.out.items c.push_name.new.out.items c.push_bytes-2.new.out.items
    (codes "  ")
    (name_of c.args.scene.now.graph c.args.number)
    (codes " [penwidth=3]\n") c.in_ok-push_bytes.ensures c.in_ok-push_name.ensures c.push_bytes-2.ensures
