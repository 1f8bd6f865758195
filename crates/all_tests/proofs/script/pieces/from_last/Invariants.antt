use Rattle.std.proofs.Common.{◌≡◌, ◌≤◌}
use Rattle.slices.specs.Parts.{test_size}
use Rattle.all_tests.proofs.Quarters.{AreDown}
use Rattle.all_tests.proofs.script.pieces.from_last.Given as goal

-- what is merged so far: all from here on
abbrev pub invariant-loop-high : goal.invariant-loop-high
invariant-loop-high l = record {
  down : AreDown l.high (test_size l.initial.work.test) l.tally.spans;
  work : l.tally.work ≡ l.initial.work;
  most : l.high ≤ test_size l.initial.work.test;
}

abbrev pub decreases-loop-high : goal.decreases-loop-high
decreases-loop-high l = l.high
