use Rattle.std.proofs.Common.{◌∙◌}
use Rattle.test_places.proofs.Counting.{next_thread}
use Rattle.test_places.proofs.accesses.Count.room_behind.Goals as goal

pub loop-body-preserved : goal.loop-body-preserved
loop-body-preserved c =
    let told = rw c.as_slice.ensures.value at c.behind_statements-count.ensures in
    next_thread c.args.bodies.now c.loop-body.body-index c.body-item.result c.loop-body.count.left c.loop-body.count.room c.behind_statements-count.result.left c.behind_statements-count.result.room c.loop-body-test.true c.body-item.is told.left told.room ∙ c.loop-body.invariant
