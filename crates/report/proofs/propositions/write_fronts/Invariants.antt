use Rattle.std.proofs.Common.{◌≤◌, length}
use Rattle.std.specs.Io.KnownBytes.{Appends}
use Rattle.report.specs.declared.propositions.Root.TheVariants.{Simple}
use Rattle.report.proofs.Printing.{fronts_from}
use Rattle.report.proofs.propositions.write_fronts.Given as goal

-- what is written is what the links from `left` on put in front
abbrev pub invariant-loop-left : goal.invariant-loop-left
invariant-loop-left g l = (l.left ≤ length l.links.items) × Appends (g.W.Sink.held l.fn.writer) (g.W.Sink.held l.writer) (fronts_from Simple l.links.items l.left)

abbrev pub decreases-loop-left : goal.decreases-loop-left
decreases-loop-left g l = l.left
