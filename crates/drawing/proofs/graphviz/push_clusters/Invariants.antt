use Rattle.std.proofs.Common.{◌≡◌, ◌++◌}
use Rattle.std.specs.Prelude.{flat_map}
use Rattle.listings.specs.Lists.{tabulate}
use Rattle.drawing.specs.Dots.{cluster}
use Rattle.drawing.proofs.graphviz.push_clusters.Given as goal

abbrev pub invariant-loop-thread : goal.invariant-loop-thread
invariant-loop-thread l = l.out.items ≡ l.fn.out.items ++ flat_map (cluster l.scene) (tabulate l.thread (λ k. k))
