use Rattle.std.proofs.Common.{◌∙◌, sym, add-one, append_assoc, drop-cons}
use Rattle.std.proofs.lemmas.List.{drop_all, append-nil}
use Rattle.events.proofs.view.names.push_threads.Goals as goal

pub loop-thread-preserved : goal.loop-thread-preserved
loop-thread-preserved c =
    let here = rw (drop-cons c.args.runs.now c.loop-thread.thread c.index-runs-thread.result c.loop-thread-test.true) at c.loop-thread.invariant in
    rw (c.in_ok-push_names.ensures, c.events.ensures, c.index-runs-thread.is, add-one, append_assoc) here

pub returns : goal.returns
returns c = sym (append-nil c.loop-thread.names.items) ∙ rw (drop_all c.loop-thread.thread c.args.runs.now c.loop-thread-test.false) at c.loop-thread.invariant
