use Rattle.std.proofs.Common.{◌∙◌, ap, map, sym, arith}
use Rattle.events.specs.Executions.{ThreadRun}
use Rattle.candidates.specs.Outlines.{outline}
use Rattle.candidates.proofs.Outlining.{put_like}
use Rattle.candidates.proofs.assembly.put_run.Goals as goal

pub returns-clause-alike : goal.returns-clause-alike
returns-clause-alike c = λ h.
    put_like outline c.args.runs.now.items c.args.thread c.index.result.now c.become_copy.new.self (omega (arith, c.if-thread-len.false, c.len.ensures)) c.index.ensures
    (c.are_like-alike.ensures h ∙ ap (λ (r : ThreadRun). map outline r.events) (sym c.in_ok-become_copy.ensures.done))
