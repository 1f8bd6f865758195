use Rattle.std.proofs.Common.{◌∙◌, ap, map, sym, arith}
use Rattle.events.specs.Executions.{ThreadRun}
use Rattle.candidates.specs.Outlines.{outline, written}
use Rattle.candidates.proofs.Outlining.{put_like}
use Rattle.candidates.proofs.threads.place_run.Goals as goal

pub returns-then-thread-len-clause-alike : goal.returns-then-thread-len-clause-alike
returns-then-thread-len-clause-alike c = λ h.
    put_like outline c.args.runs.now.items c.args.thread c.index.result.now c.become_copy.new.self (omega (arith, c.if-thread-len.true, c.len.ensures, c.requires.placed.there)) c.index.ensures
    (ap (map outline) (sym c.events.ensures) ∙ c.how_like-like.ensures.alike h ∙ ap (map outline) c.events-then-thread-len.ensures
    ∙ ap (λ (r : ThreadRun). map outline r.events) (sym c.in_ok-become_copy.ensures.done))

pub returns-then-thread-len-clause-calm : goal.returns-then-thread-len-clause-calm
returns-then-thread-len-clause-calm c = λ h.
    put_like written c.args.runs.now.items c.args.thread c.index.result.now c.become_copy.new.self (omega (arith, c.if-thread-len.true, c.len.ensures, c.requires.placed.there)) c.index.ensures
    (ap (map written) (sym c.events.ensures) ∙ c.how_like-like.ensures.calm h ∙ ap (map written) c.events-then-thread-len.ensures
    ∙ ap (λ (r : ThreadRun). map written r.events) (sym c.in_ok-become_copy.ensures.done))
