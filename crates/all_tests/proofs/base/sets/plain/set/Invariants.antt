use Rattle.std.proofs.Common.{◌≡◌}
use Rattle.all_tests.proofs.base.sets.plain.set.Given as goal

abbrev pub invariant-loop-i : goal.invariant-loop-i
invariant-loop-i l = l.s.count ≡ l.count
