use Rattle.std.proofs.Common.{◌∙◌}
use Rattle.test_places.proofs.Counting.{next_step}
use Rattle.test_places.proofs.accesses.Count.+counting.Goals as goal

pub behind_statements-loop-statement-preserved : goal.behind_statements-loop-statement-preserved
behind_statements-loop-statement-preserved t c =
    let next = next_step c.args.statements.now c.loop-statement.statement-index c.statement-item.result c.loop-statement.count.left c.loop-statement.count.room c.behind_statement-count.result.left c.behind_statement-count.result.room
    c.loop-statement-test.true c.statement-item.is c.behind_statement-count.ensures.left c.behind_statement-count.ensures.room in
    record { left = next.0 ∙ c.loop-statement.invariant.left; room = next.1 ∙ c.loop-statement.invariant.room }
