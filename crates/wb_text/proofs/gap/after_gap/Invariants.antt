use Rattle.std.proofs.Common.{length}
use Rattle.wb_text.specs.Gaps.{IsGap}
use Rattle.wb_text.proofs.gap.after_gap.Given as goal

abbrev pub invariant-loop-rest : goal.invariant-loop-rest
invariant-loop-rest l = IsGap l.dialect l.text l.rest

abbrev pub decreases-loop-rest : goal.decreases-loop-rest
decreases-loop-rest l = length l.rest
