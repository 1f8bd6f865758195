use Rattle.std.proofs.Common.{◌∙◌}
use Rattle.test_places.proofs.Counting.{next_declared}
use Rattle.test_places.proofs.accesses.Count.behind_declarators.Goals as goal

pub loop-declarator-preserved : goal.loop-declarator-preserved
loop-declarator-preserved c =
    let next = next_declared c.args.declarators.now c.loop-declarator.declarator-index c.declarator-item.result c.loop-declarator.count.left c.loop-declarator.count.room c.behind_declarator-count.result.left c.behind_declarator-count.result.room
    c.loop-declarator-test.true c.declarator-item.is c.behind_declarator-count.ensures.left c.behind_declarator-count.ensures.room in
    record { left = next.0 ∙ c.loop-declarator.invariant.left; room = next.1 ∙ c.loop-declarator.invariant.room }
