use Rattle.std.proofs.Common.{List, ap, length, arith}
use Rattle.events.specs.declared.event.Event.{Event}
use Rattle.events.specs.Executions.{ThreadRun}
use Rattle.std.specs.Prelude.{filter}
use Rattle.events.specs.Executions.{is_read}
use Rattle.candidates.specs.Executions.{reads}
use Rattle.candidates.proofs.Calm.{reads_counted, reads_dropped}
use Rattle.std.proofs.lemmas.List.{drop_all}
use Rattle.candidates.proofs.assembly.reads_before.Goals as goal

pub loop-run-init : goal.loop-run-init
loop-run-init c = omega (arith, c.requires.all, reads_counted c.args.runs.now c.args.threads, ap (λ (rs : List ThreadRun). length (reads rs)) c.runs_from-later.ensures)

pub overflow_sub-count : goal.overflow_sub-count
overflow_sub-count c =
    let at = c.loop-run in
    let step = reads_dropped c.runs_from-later.result.now at.run-index c.run-item.result c.loop-run-test.true c.run-item.is in
    let here = ap (λ (es : List Event). length (filter (λ e. is_read e.access) es)) c.events.ensures in
    omega (arith, c.count_reads-count.ensures, here, step, at.invariant)

pub loop-run-preserved : goal.loop-run-preserved
loop-run-preserved c =
    let at = c.loop-run in
    let step = reads_dropped c.runs_from-later.result.now at.run-index c.run-item.result c.loop-run-test.true c.run-item.is in
    let here = ap (λ (es : List Event). length (filter (λ e. is_read e.access) es)) c.events.ensures in
    omega (arith, c.count_reads-count.ensures, here, step, at.invariant)

pub returns : goal.returns
returns c =
    let at = c.loop-run in
    let left = ap (λ (rs : List ThreadRun). length (reads rs)) (drop_all at.run-index c.runs_from-later.result.now c.loop-run-test.false) in
    omega (arith, left, at.invariant)
