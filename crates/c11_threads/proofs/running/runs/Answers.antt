use Rattle.std.proofs.Common.{◌∙◌, ap, sym, subst, arith, length}
use Rattle.std.proofs.lemmas.List.{length-map}
use Rattle.std.proofs.lemmas.Result.{err_from_is_err_and}
use Rattle.litmus_tree.specs.Tree.{Steps, steps_of}
use Rattle.litmus_value.specs.Values.{values_of}
use Rattle.c11_threads.specs.Runs.{run_of}
use Rattle.c11_threads.specs.Unrolled.{Setting}
use Rattle.c11_threads.specs.Ways.{Ways}
use Rattle.c11_threads.specs.Serving.{ServesSteps}
use Rattle.c11_threads.proofs.Numerals.{serves_thread}
use Rattle.c11_threads.proofs.Whole.{unrolled, as_runs, all_listed, run_fault}
use Rattle.c11_threads.proofs.running.runs.Goals as goal

pub perform_all-requires : goal.perform_all-requires
perform_all-requires c =
    let t = c.args.test.now in
    let k = c.args.thread in
    let P : Setting → Type 0 = λ s. ServesSteps s.values (steps_of c.statements.result.now) in
    let Q : Steps → Type 0 = ServesSteps (values_of t) in
    subst P (sym c.within-setting.ensures) (subst Q (sym c.statements.ensures) (serves_thread t k c.requires))

pub returns-in_err-ends-clause-fault : goal.returns-in_err-ends-clause-fault
returns-in_err-ends-clause-fault c =
    let p = err_from_is_err_and c.from_residual-in_err-ends.result c.from_residual-in_err-ends.ensures.1 in
    let e = unrolled c.args.test.now c.args.thread c.within-setting.result (steps_of c.statements.result.now) c.in_ok-from.from c.in_ok-start.start c.within-setting.ensures c.statements.ensures c.in_ok-from.ensures c.in_ok-start.ensures in
    rw (p.1, p.2) (run_fault c.args.test.now c.args.thread _ c.in_err-ends.field-0.0 e c.in_err-ends.ensures)

pub returns-clause-each : goal.returns-clause-each
returns-clause-each c =
    let e = unrolled c.args.test.now c.args.thread c.within-setting.result (steps_of c.statements.result.now) c.in_ok-from.from c.in_ok-start.start c.within-setting.ensures c.statements.ensures c.in_ok-from.ensures c.in_ok-start.ensures in
    let ends = c.into_ends.ensures.ends ∙ ap (λ (w : Ways). w.ends) (c.in_ok-ends.ensures ∙ e) in
    all_listed c.args.test.now c.args.thread c.in_ok-runs_from.field-0.items (as_runs c.args.test.now c.args.thread c.in_ok-runs_from.field-0.items c.into_ends.result.items c.in_ok-runs_from.ensures ends)

pub returns-clause-order : goal.returns-clause-order
returns-clause-order c =
    let e = unrolled c.args.test.now c.args.thread c.within-setting.result (steps_of c.statements.result.now) c.in_ok-from.from c.in_ok-start.start c.within-setting.ensures c.statements.ensures c.in_ok-from.ensures c.in_ok-start.ensures in
    let ends = c.into_ends.ensures.ends ∙ ap (λ (w : Ways). w.ends) (c.in_ok-ends.ensures ∙ e) in
    as_runs c.args.test.now c.args.thread c.in_ok-runs_from.field-0.items c.into_ends.result.items c.in_ok-runs_from.ensures ends

pub returns-clause-within : goal.returns-clause-within
returns-clause-within c = omega (arith, ap length c.in_ok-runs_from.ensures, length-map c.into_ends.result.items run_of, ap length c.into_ends.ensures.ends, c.into_ends.ensures.within)
