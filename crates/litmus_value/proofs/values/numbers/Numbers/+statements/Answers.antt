use Rattle.std.proofs.Common.{◌≡◌, sym, ap, ◌∙◌, ◌+◌, drop, subst}
use Rattle.std.proofs.lemmas.Result.{err_from_is_err_and}
use Rattle.litmus_tree.specs.declared.tree.Statement.{Statement}
use Rattle.litmus_tree.specs.Tree.{term_of, step_of, steps_of}
use Rattle.litmus_value.specs.Gathering.{Gathered, gathered, all_noted, IsFull}
use Rattle.litmus_value.specs.Values.{term_numerals, step_numerals, steps_numerals}
use Rattle.litmus_value.proofs.Branches.{branch_only, branch_else}
use Rattle.litmus_value.proofs.Noted.{next_steps, full_whole, full_on}
use Rattle.litmus_value.proofs.values.numbers.Numbers.+statements.Goals as goal

pub note_statements-returns-in_err-note_statement-clause-fault : goal.note_statements-returns-in_err-note_statement-clause-fault
note_statements-returns-in_err-note_statement-clause-fault t c =
    let p = err_from_is_err_and c.from_residual.result c.from_residual.ensures.1 in
    let after = next_steps c.statement-item.result c.args.statements.now c.loop-statement.statement-index (gathered c.loop-statement.self) c.loop-statement-test.true c.statement-item.is in
    rw (p.1, p.2) (full_whole _ _ (steps_numerals (steps_of (drop (c.loop-statement.statement-index + 1) c.args.statements.now))) _ (sym after ∙ c.loop-statement.invariant.rest) c.in_err-note_statement.ensures.fault)

pub note_statements-loop-statement-preserved : goal.note_statements-loop-statement-preserved
note_statements-loop-statement-preserved t c = record {
  rest = (
      let after = next_steps c.statement-item.result c.args.statements.now c.loop-statement.statement-index (gathered c.loop-statement.self) c.loop-statement-test.true c.statement-item.is in
      ap (λ g. all_noted g (steps_numerals (steps_of (drop (c.loop-statement.statement-index + 1) c.args.statements.now)))) c.in_ok-note_statement.ensures.done ∙ sym after ∙ c.loop-statement.invariant.rest);
  within = c.in_ok-note_statement.ensures.within;
}

pub note_statement-returns-in_err-note_expression-in-None-clause-fault : goal.note_statement-returns-in_err-note_expression-in-None-clause-fault
note_statement-returns-in_err-note_expression-in-None-clause-fault t c =
    let p = err_from_is_err_and c.from_residual.result c.from_residual.ensures.1 in
    rw (p.1, p.2) (full_whole _ _ (step_numerals (step_of c.in-If.arm.value)) _ (sym (branch_only c.args.statement.now c.in-If.test c.in-If.arm c.in-If.other (gathered c.args.self.now) c.in-If.is c.in-None.is)) c.in_err-note_expression-in-None.ensures.fault)

pub note_statement-returns-in_err-note_expression-in-Some-clause-fault : goal.note_statement-returns-in_err-note_expression-in-Some-clause-fault
note_statement-returns-in_err-note_expression-in-Some-clause-fault t c =
    let p = err_from_is_err_and c.from_residual-in_err-note_expression-in-Some.result c.from_residual-in_err-note_expression-in-Some.ensures.1 in
    let whole = branch_else c.args.statement.now c.in-If.test c.in-If.arm c.in-Some.other c.in-If.other (gathered c.args.self.now) c.in-If.is c.in-Some.is in
    rw (p.1, p.2) (full_whole _ _ (step_numerals (step_of c.in-Some.other.value)) _ (sym whole) (full_on _ (step_numerals (step_of c.in-If.arm.value)) _ c.in_err-note_expression-in-Some.ensures.fault))

pub note_statement-returns-in_err-note_statement-in-Some-clause-fault : goal.note_statement-returns-in_err-note_statement-in-Some-clause-fault
note_statement-returns-in_err-note_statement-in-Some-clause-fault t c =
    let p = err_from_is_err_and c.from_residual-in_err-note_statement-in-Some.result c.from_residual-in_err-note_statement-in-Some.ensures.1 in
    let whole = branch_else c.args.statement.now c.in-If.test c.in-If.arm c.in-Some.other c.in-If.other (gathered c.args.self.now) c.in-If.is c.in-Some.is in
    let first : gathered c.note_expression-in-Some.new.self ≡ all_noted (gathered c.args.self.now) (term_numerals (term_of c.in-If.test)) = c.in_ok-note_expression-in-Some.ensures.done in
    let S : Statement → Type 0 = λ s. IsFull (all_noted (gathered c.note_expression-in-Some.new.self) (step_numerals (step_of s))).0 c.in_err-note_statement-in-Some.field-0.0 in
    let Q : Gathered → Type 0 = λ g. IsFull (all_noted g (step_numerals (step_of c.in-If.arm.value))).0 c.in_err-note_statement-in-Some.field-0.0 in
    rw (p.1, p.2) (full_whole _ _ (step_numerals (step_of c.in-Some.other.value)) _ (sym whole) (subst Q first (subst S c.deref-in-Some.ensures c.in_err-note_statement-in-Some.ensures.fault)))
