use Rattle.std.proofs.Common.{◌+◌, ◌≤◌, length}
use Rattle.wb_text.proofs.Nesting.{Agrees}
use Rattle.wb_text.proofs.gap.after_nested.Given as goal

abbrev pub invariant-loop-depth : goal.invariant-loop-depth
invariant-loop-depth l = record {
  small : l.depth + length l.rest ≤ length l.inside + 1;
  agrees : Agrees l.depth l.rest l.inside;
}

abbrev pub decreases-loop-depth : goal.decreases-loop-depth
decreases-loop-depth l = length l.rest
