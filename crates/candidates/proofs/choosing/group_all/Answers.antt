use Rattle.std.proofs.Common.{◌∙◌, List, map, ap}
use Rattle.events.specs.Executions.{ThreadRun}
use Rattle.candidates.specs.declared.counts.Counts.{Counts}
use Rattle.candidates.specs.Groups.{tally_of}
use Rattle.candidates.proofs.Adding.{row_next}
use Rattle.candidates.proofs.choosing.group_all.Goals as goal

pub loop-thread-preserved : goal.loop-thread-preserved
loop-thread-preserved c =
    let F : List ThreadRun → List (List Counts) = λ runs. map (λ run. tally_of c.args.locations run.events) runs in
    row_next F c.args.threads.now c.loop-thread.thread-index c.thread-item.result c.loop-thread.groups.items c.push.new.self.items c.in_ok-new.field-0 c.loop-thread-test.true
    (c.in_ok-new.ensures ∙ ap F (c.runs.ensures ∙ c.thread-item.is)) c.in_ok-push.ensures.items c.loop-thread.invariant
