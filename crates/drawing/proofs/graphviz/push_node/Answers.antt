use Rattle.std.specs.Prelude.{◌++◌, codes}
use Rattle.drawing.specs.Telling.{called}
use Rattle.drawing.specs.Dots.{told, node_line}
use Rattle.drawing.proofs.Adding.{both, three}
use Rattle.drawing.proofs.graphviz.push_node.Goals as goal

pub returns : goal.returns
unfolding node_line
returns c =
    let old = c.args.out.now.items in
    let name = called c.args.scene.now c.args.event in
    let first = both old c.push_bytes.new.out.items c.push_called.new.out.items (codes "    ") name c.in_ok-push_bytes.ensures c.in_ok-push_called.ensures in
    let second = both old c.push_called.new.out.items c.push_bytes-2.new.out.items (codes "    " ++ name) (codes " [label=\"") first c.in_ok-push_bytes-2.ensures in
    let third = both old c.push_bytes-2.new.out.items c.push_called-2.new.out.items (codes "    " ++ name ++ codes " [label=\"") name second c.in_ok-push_called-2.ensures in
    let fourth = both old c.push_called-2.new.out.items c.push_bytes-3.new.out.items (codes "    " ++ name ++ codes " [label=\"" ++ name) (codes ": ") third c.in_ok-push_bytes-3.ensures in
    three c.push_bytes-4.result old c.push_bytes-3.new.out.items c.push_told.new.out.items c.push_bytes-4.new.out.items
    (codes "    " ++ name ++ codes " [label=\"" ++ name ++ codes ": ") (told c.args.scene.now c.args.event) (codes "\"]\n") fourth c.in_ok-push_told.ensures c.push_bytes-4.ensures
