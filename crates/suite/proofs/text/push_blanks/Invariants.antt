use Rattle.std.proofs.Common.{◌≡◌, ◌++◌, replicate}
use Rattle.suite.proofs.text.push_blanks.Given as goal

abbrev pub invariant-loop-left : goal.invariant-loop-left
invariant-loop-left l = l.text.items ++ replicate l.left 32 ≡ l.initial.text.items ++ replicate l.count 32

abbrev pub decreases-loop-left : goal.decreases-loop-left
decreases-loop-left l = l.left
