use Rattle.std.proofs.Common.{rules}
use Rattle.suite.proofs.EachSlice.{turned_none, turned_on, turned_all}
use Rattle.suite.proofs.together.evaluate_turns.Goals as goal

pub loop-slice-init : goal.loop-slice-init
loop-slice-init c = turned_none _ _ _ _ _ (search rules) (search rules)

pub loop-slice-preserved : goal.loop-slice-preserved
loop-slice-preserved c = turned_on _ _ _ _ _ _ _ _ c.loop-slice.invariant c.in_ok-evaluate_slice.ensures c.in_ok-push.ensures.items (search rules)

pub returns : goal.returns
returns c = turned_all _ _ _ _ _ c.loop-slice.invariant c.loop-slice-test.false
