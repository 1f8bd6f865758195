use Rattle.std.proofs.Common.{◌≡◌, drop}
use Rattle.std.specs.Cmp.Lexicographic.{pointwise}
use Rattle.wb_text.proofs.same.are_same.Given as goal

-- what is left decides
abbrev pub invariant-loop-i : goal.invariant-loop-i
invariant-loop-i g l = pointwise g.T.PartialEq.eq l.items l.others ≡ pointwise g.T.PartialEq.eq (drop l.i l.items) (drop l.i l.others)
