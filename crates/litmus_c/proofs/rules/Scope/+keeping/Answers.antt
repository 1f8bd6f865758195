use Rattle.std.proofs.Common.{◌+◌, ◌∙◌, List, Bool, drop, ap, sym}
use Rattle.std.specs.Prelude.{◌&&◌}
use Rattle.litmus_tree.specs.declared.tree.Statement.{Statement}
use Rattle.litmus_tree.specs.Tree.{steps_of}
use Rattle.litmus_c.specs.Rules.{steps_keep}
use Rattle.litmus_c.proofs.Left.{drop_first}
use Rattle.litmus_c.proofs.rules.Scope.+keeping.Goals as goal

pub steps_keep-loop-statement-preserved : goal.steps_keep-loop-statement-preserved
steps_keep-loop-statement-preserved t c =
    let scope = c.args.self.now in
    let statements = c.args.statements.now in
    let at = c.loop-statement.statement-index in
    let keep = λ (ss : List Statement). steps_keep scope.rule scope.thread.now.parameters scope.thread.now.registers (steps_of ss) in
    ap (λ (b : Bool). b && keep (drop (at + 1) statements)) c.if-not-step_keeps.ensures ∙ sym (ap keep (drop_first c.statement-item.result statements at c.loop-statement-test.true c.statement-item.is)) ∙ c.loop-statement.invariant

pub steps_keep-returns-then-not-step_keeps : goal.steps_keep-returns-then-not-step_keeps
steps_keep-returns-then-not-step_keeps t c =
    let scope = c.args.self.now in
    let statements = c.args.statements.now in
    let at = c.loop-statement.statement-index in
    let keep = λ (ss : List Statement). steps_keep scope.rule scope.thread.now.parameters scope.thread.now.registers (steps_of ss) in
    ap (λ (b : Bool). b && keep (drop (at + 1) statements)) c.if-not-step_keeps.ensures ∙ sym (ap keep (drop_first c.statement-item.result statements at c.loop-statement-test.true c.statement-item.is)) ∙ c.loop-statement.invariant
