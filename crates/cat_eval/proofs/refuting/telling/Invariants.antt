use Rattle.std.proofs.Common.{◌≤◌, length}
use Rattle.cat_eval.proofs.refuting.telling.Given as goal

abbrev pub invariant-loop-number : goal.invariant-loop-number
invariant-loop-number l = l.count ≤ length l.items
