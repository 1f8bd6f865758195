use Rattle.std.proofs.Common.{subst}
use Rattle.events.specs.Executions.{IsGraph}
use Rattle.slices.proofs.Refuting.{block_forbidden}
use Rattle.slices.proofs.lesson.widen.Goals as goal

pub loop-depth-preserved : goal.loop-depth-preserved
loop-depth-preserved c items fatal other =
    let block = c.in-Some.block in
    block_forbidden items c.args.walk.now block.end block.cut c.args.reason (subst IsGraph c.graph.ensures c.runs.ensures.graph) c.in-Some.ensures.within.0 c.in-Some.ensures.extend c.in-Some.ensures.writes c.requires (c.is_known.ensures c.if-is_known.true) fatal

pub returns-in_default : goal.returns-in_default
returns-in_default c = c.loop-depth.invariant
