use Rattle.std.specs.Prelude.{◌++◌, codes, decimal}
use Rattle.drawing.proofs.Adding.{both, three}
use Rattle.drawing.proofs.graphviz.push_cluster_head.Goals as goal

pub returns : goal.returns
returns c =
    let first = both c.args.out.now.items c.push_bytes.new.out.items c.push_number.new.out.items (codes "  subgraph cluster_") (decimal c.args.thread) c.in_ok-push_bytes.ensures c.in_ok-push_number.ensures in
    let second = both c.args.out.now.items c.push_number.new.out.items c.push_bytes-2.new.out.items (codes "  subgraph cluster_" ++ decimal c.args.thread) (codes " {\n    label=\"P") first c.in_ok-push_bytes-2.ensures in
    three c.push_bytes-3.result c.args.out.now.items c.push_bytes-2.new.out.items c.push_number-2.new.out.items c.push_bytes-3.new.out.items
    (codes "  subgraph cluster_" ++ decimal c.args.thread ++ codes " {\n    label=\"P")
    (decimal c.args.thread)
    (codes "\"\n") second c.in_ok-push_number-2.ensures c.push_bytes-3.ensures
