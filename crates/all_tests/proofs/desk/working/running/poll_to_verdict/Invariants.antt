use Rattle.std.proofs.Common.{◌≡◌}
use Rattle.all_tests.proofs.desk.working.running.poll_to_verdict.Given as goal

abbrev pub invariant-loop : goal.invariant-loop
invariant-loop g l = l.pass.parts ≡ 1
