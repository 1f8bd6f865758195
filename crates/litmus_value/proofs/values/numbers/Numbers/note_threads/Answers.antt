use Rattle.std.proofs.Common.{sym, ap, ◌∙◌, ◌+◌, drop, subst}
use Rattle.std.proofs.lemmas.Result.{err_from_is_err_and}
use Rattle.litmus_tree.specs.Tree.{Steps}
use Rattle.litmus_value.specs.Gathering.{gathered, all_noted, IsFull}
use Rattle.litmus_value.specs.Values.{steps_numerals, program_numerals, numerals_among}
use Rattle.litmus_value.proofs.Noted.{next, full_whole}
use Rattle.litmus_value.proofs.values.numbers.Numbers.note_threads.Goals as goal

pub returns-in_err-note_statements-clause-fault : goal.returns-in_err-note_statements-clause-fault
returns-in_err-note_statements-clause-fault c =
    let p = err_from_is_err_and c.from_residual.result c.from_residual.ensures.1 in
    let after = next program_numerals c.thread-item.result c.args.threads.now c.loop-thread.thread-index (gathered c.loop-thread.self) c.loop-thread-test.true c.thread-item.is in
    rw (p.1, p.2) (full_whole _ _ (numerals_among (drop (c.loop-thread.thread-index + 1) c.args.threads.now)) _ (sym after ∙ c.loop-thread.invariant.rest)
    (let Q : Steps → Type 0 = λ ss. IsFull (all_noted (gathered c.loop-thread.self) (steps_numerals ss)).0 c.in_err-note_statements.field-0.0 in subst Q c.statements.ensures c.in_err-note_statements.ensures.fault))

pub loop-thread-preserved : goal.loop-thread-preserved
loop-thread-preserved c = record {
  rest = (
      let after = next program_numerals c.thread-item.result c.args.threads.now c.loop-thread.thread-index (gathered c.loop-thread.self) c.loop-thread-test.true c.thread-item.is in
      ap (λ g. all_noted g (numerals_among (drop (c.loop-thread.thread-index + 1) c.args.threads.now))) (c.in_ok-note_statements.ensures.done ∙ ap (λ ss. all_noted (gathered c.loop-thread.self) (steps_numerals ss)) c.statements.ensures) ∙ sym after ∙ c.loop-thread.invariant.rest);
  within = c.in_ok-note_statements.ensures.within;
}
