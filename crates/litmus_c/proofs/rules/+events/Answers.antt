use Rattle.std.proofs.Common.{◌≡◌, map, take, ap, sym, ◌∙◌, arith}
use Rattle.std.specs.Prelude.{sum_by}
use Rattle.std.proofs.lemmas.List.{take_all}
use Rattle.litmus_value.specs.Limits.{step_events, steps_events}
use Rattle.litmus_tree.specs.Tree.{step_of, steps_of}
use Rattle.litmus_c.proofs.Steps.{row_events}
use Rattle.litmus_c.proofs.rules.+events.Goals as goal

-- src/rules.rt:334:1
pub after_statements-returns : goal.after_statements-returns
after_statements-returns t c =
    let ss = c.args.statements.now in
    let i = c.loop-statement.statement-index in
    let all : sum_by step_events (map step_of (take i ss)) ≡ steps_events (steps_of ss) =
    ap (λ l. sum_by step_events (map step_of l)) (take_all i ss c.loop-statement-test.false) ∙ sym (row_events ss) in
    (omega (arith, c.loop-statement.invariant, all), omega (arith, c.loop-statement.invariant, all))
