use Rattle.std.proofs.Common.{◌≡◌}
use Rattle.all_tests.proofs.base.sets.is_chain_closed.Given as goal

abbrev pub invariant-loop-i : goal.invariant-loop-i
invariant-loop-i l = l.steps.count ≡ 64
