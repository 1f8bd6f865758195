use Rattle.std.proofs.Common.{◌∙◌, List, ◌++◌, ap, take, refl, sym, append-nil}
use Rattle.std.specs.Prelude.{filter}
use Rattle.events.specs.declared.event.Event.{Event}
use Rattle.events.specs.Executions.{ThreadRun, is_read}
use Rattle.candidates.specs.Executions.{reads}
use Rattle.candidates.proofs.Calm.{reads_split}
use Rattle.candidates.proofs.Gathered.{gathered_on}
use Rattle.std.proofs.lemmas.Result.{IfOk-from_err}
use Rattle.std.proofs.lemmas.List.{at_drop_all}
use Rattle.candidates.proofs.assembly.reads.Goals as goal

pub loop-run-init : goal.loop-run-init
loop-run-init c =
    let runs = c.args.runs.now in
    let first = reads (take c.args.threads runs) in
    ap (λ (es : List Event). es ++ reads c.runs_from-later.result.now) (c.truncate.ensures.items ∙ c.requires.known)
    ∙ ap (λ (rs : List ThreadRun). first ++ reads rs) c.runs_from-later.ensures ∙ reads_split runs c.args.threads

pub loop-run-preserved : goal.loop-run-preserved
loop-run-preserved c =
    let at = c.loop-run in
    let run = c.run-item.result in
    gathered_on reads reads c.runs_from-later.result.now at.run-index run (filter (λ e. is_read e.access) run.events) at.reads.items c.push_reads.new.reads.items _ c.loop-run-test.true c.run-item.is refl
    (c.in_ok-push_reads.ensures ∙ ap (λ (es : List Event). at.reads.items ++ filter (λ e. is_read e.access) es) c.events.ensures) at.invariant

pub returns-in_err-push_reads : goal.returns-in_err-push_reads
returns-in_err-push_reads c = IfOk-from_err c.from_residual.result _ c.from_residual.ensures.0

pub returns : goal.returns
returns c =
    let done = c.loop-run.reads.items in
    sym (append-nil done) ∙ ap (λ (es : List Event). done ++ es) (sym (at_drop_all reads c.runs_from-later.result.now c.loop-run.run-index c.loop-run-test.false)) ∙ c.loop-run.invariant
