use Rattle.std.specs.Prelude.{codes}
use Rattle.drawing.specs.declared.group.Group.TheVariants.{Thread}
use Rattle.drawing.specs.Dots.{cluster, cluster_head, nodes}
use Rattle.drawing.proofs.Adding.{three}
use Rattle.drawing.proofs.graphviz.push_cluster.Goals as goal

pub returns : goal.returns
unfolding cluster
returns c =
    three c.push_bytes.result c.args.out.now.items c.push_cluster_head.new.out.items c.push_nodes.new.out.items c.push_bytes.new.out.items
    (cluster_head c.args.thread)
    (nodes c.args.scene.now (Thread c.args.thread))
    (codes "  }\n") c.in_ok-push_cluster_head.ensures c.in_ok-push_nodes.ensures c.push_bytes.ensures
