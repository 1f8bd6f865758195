use Rattle.std.proofs.Common.{◌∙◌, ◌+◌, List, ◌++◌, ap, drop, sym, append-nil}
use Rattle.events.specs.declared.event.Event.{Event}
use Rattle.candidates.specs.Executions.{writes_from, writes_from_thread}
use Rattle.candidates.proofs.Gathered.{gathered_on, writes_of_thread}
use Rattle.std.proofs.lemmas.List.{drop_all}
use Rattle.candidates.proofs.assembly.later_writes.Goals as goal

pub loop-thread-preserved : goal.loop-thread-preserved
loop-thread-preserved c =
    let x = c.args.location in
    let runs = c.args.runs.now in
    let at = c.loop-thread in
    let run = c.index-runs-thread.result in
    gathered_on (writes_from_thread x at.thread) (writes_from_thread x (at.thread + 1)) runs at.thread run (writes_from x at.thread 0 run.events) at.writes.items c.push_writes.new.writes.items _ c.loop-thread-test.true
    c.index-runs-thread.is (writes_of_thread x at.thread run (drop (at.thread + 1) runs)) (c.in_ok-push_writes.ensures ∙ ap (λ (es : List Event). at.writes.items ++ writes_from x at.thread 0 es) c.events.ensures) at.invariant

pub returns : goal.returns
returns c = sym (append-nil c.loop-thread.writes.items) ∙ rw (drop_all c.loop-thread.thread c.args.runs.now c.loop-thread-test.false) at c.loop-thread.invariant
