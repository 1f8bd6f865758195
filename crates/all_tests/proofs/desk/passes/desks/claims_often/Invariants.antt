use Rattle.std.proofs.Common.{◌≡◌}
use Rattle.all_tests.proofs.desk.passes.desks.claims_often.Given as goal

abbrev pub invariant-loop-claim : goal.invariant-loop-claim
invariant-loop-claim g l = l.pass.parts ≡ 1
