use Rattle.std.proofs.Common.{◌≡◌, ◌++◌, length}
use Rattle.test_places.specs.Numbers.{numbers_from, numbers_of}
use Rattle.test_places.proofs.numbers.numbers.Given as goal

-- the numbers so far, and those of what is left
abbrev pub invariant-loop-mark : goal.invariant-loop-mark
invariant-loop-mark l = l.numbers.items ++ numbers_from l.held l.rest ≡ numbers_of l.marks

abbrev pub decreases-loop-mark : goal.decreases-loop-mark
decreases-loop-mark l = length l.rest
