use Rattle.std.proofs.Common.{◌≡◌}
use Rattle.all_tests.proofs.desk.calls.make_all.Given as goal

abbrev pub invariant-loop-call : goal.invariant-loop-call
invariant-loop-call g l = l.pass.parts ≡ 1
