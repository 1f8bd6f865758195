use Rattle.std.proofs.Common.{◌+◌, ◌∙◌, List, Bool, drop, ap, sym}
use Rattle.std.specs.Prelude.{◌&&◌}
use Rattle.litmus_tree.specs.declared.tree.Statement.{Statement}
use Rattle.litmus_tree.specs.Tree.{steps_of}
use Rattle.c11_threads.specs.Idle.{are_idle}
use Rattle.c11_threads.proofs.Turns.{drop_first}
use Rattle.c11_threads.proofs.idle.+idling.Goals as goal

pub are_idle-loop-statement-preserved : goal.are_idle-loop-statement-preserved
are_idle-loop-statement-preserved t c =
    let statements = c.args.statements.now in
    let at = c.loop-statement.statement-index in
    let rest = are_idle (steps_of (drop (at + 1) statements)) in
    ap (λ (b : Bool). b && rest) c.if-not-is_idle.ensures ∙ sym (ap (λ (as' : List Statement). are_idle (steps_of as')) (drop_first c.statement-item.result statements at c.loop-statement-test.true c.statement-item.is)) ∙ c.loop-statement.invariant
