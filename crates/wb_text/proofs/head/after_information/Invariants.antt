use Rattle.std.proofs.Common.{length}
use Rattle.wb_text.specs.Tokens.{IsInformation}
use Rattle.wb_text.proofs.head.after_information.Given as goal

abbrev pub invariant-loop-rest : goal.invariant-loop-rest
invariant-loop-rest l = IsInformation l.text l.rest

abbrev pub decreases-loop-rest : goal.decreases-loop-rest
decreases-loop-rest l = length l.rest
