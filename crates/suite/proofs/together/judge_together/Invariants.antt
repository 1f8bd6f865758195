use Rattle.std.proofs.Common.{◌≡◌, ◌≤◌, ◌-◌}
use Rattle.suite.specs.Together.{HasFirst}
use Rattle.suite.proofs.together.judge_together.Given as goal

abbrev pub invariant-loop-done : goal.invariant-loop-done
invariant-loop-done g l = record {
  before : HasFirst l.total l.done l.tally;
  work : l.tally.work ≡ l.fn.work;
  within : l.done ≤ l.total;
}

abbrev pub decreases-loop-done : goal.decreases-loop-done
decreases-loop-done g l = l.total - l.done
