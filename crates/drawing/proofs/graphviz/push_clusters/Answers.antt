use Rattle.drawing.specs.Dots.{cluster}
use Rattle.drawing.proofs.Adding.{one_more}
use Rattle.drawing.proofs.graphviz.push_clusters.Goals as goal

pub loop-thread-preserved : goal.loop-thread-preserved
loop-thread-preserved c = one_more (cluster c.args.scene.now) c.loop-thread.thread _ _ _ c.loop-thread.invariant c.in_ok-push_cluster.ensures
