use Rattle.std.proofs.Common.{◌≡◌}
use Rattle.suite.specs.Together.{HasFirst}
use Rattle.suite.proofs.together.merge_round.Given as goal

abbrev pub invariant-loop-slice : goal.invariant-loop-slice
invariant-loop-slice l = record {
  before : HasFirst l.round.total l.slice l.tally;
  work : l.tally.work ≡ l.initial.tally.work;
}
