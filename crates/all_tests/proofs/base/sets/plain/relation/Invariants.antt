use Rattle.std.proofs.Common.{◌≡◌}
use Rattle.all_tests.proofs.base.sets.plain.relation.Given as goal

abbrev pub invariant-loop-i : goal.invariant-loop-i
invariant-loop-i l = l.r.count ≡ l.count

abbrev pub invariant-loop-j : goal.invariant-loop-j
invariant-loop-j l = l.r.count ≡ l.count
