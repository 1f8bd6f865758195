use Rattle.std.proofs.Common.{◌≡◌, ◌++◌, length}
use Rattle.test_places.specs.Marks.{marks_from, start}
use Rattle.test_places.proofs.mark.marks.Given as goal

-- the marks so far, and those of what is left
abbrev pub invariant-loop-symbol : goal.invariant-loop-symbol
invariant-loop-symbol l = l.marks.items ++ marks_from l.walk l.rest ≡ marks_from start l.symbols

abbrev pub decreases-loop-symbol : goal.decreases-loop-symbol
decreases-loop-symbol l = length l.rest
