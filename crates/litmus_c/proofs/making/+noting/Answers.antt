use Rattle.std.proofs.Common.{◌+◌, ◌∙◌, List, drop, ap, sym}
use Rattle.litmus_tree.specs.declared.tree.Statement.{Statement}
use Rattle.litmus_tree.specs.Names.{with_names}
use Rattle.litmus_tree.specs.Tree.{step_of, steps_of}
use Rattle.litmus_c.specs.Rules.{step_registers, steps_registers}
use Rattle.litmus_c.proofs.Left.{drop_first}
use Rattle.litmus_c.proofs.Names.{names_append}
use Rattle.litmus_c.proofs.making.+noting.Goals as goal

pub note_statements-loop-statement-preserved : goal.note_statements-loop-statement-preserved
note_statements-loop-statement-preserved t c =
    let before = c.loop-statement.registers.keys in
    let statements = c.args.statements.now in
    let at = c.loop-statement.statement-index in
    rw c.in_ok-note_statement.ensures (
    sym (names_append before (step_registers (step_of c.statement-item.result)) (steps_registers (steps_of (drop (at + 1) statements))))
    ∙ sym (ap (λ (ss : List Statement). with_names before (steps_registers (steps_of ss))) (drop_first c.statement-item.result statements at c.loop-statement-test.true c.statement-item.is))
    ∙ c.loop-statement.invariant
    )
