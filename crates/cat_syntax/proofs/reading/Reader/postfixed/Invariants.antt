use Rattle.std.proofs.Common.{◌≡◌, length}
use Rattle.descent.specs.Reading.{repeated}
use Rattle.cat_tree.specs.Tree.{term_of}
use Rattle.cat_syntax.specs.Reading.{postfix_at, applied_at, cut}
use Rattle.cat_syntax.proofs.reading.Reader.postfixed.Given as goal

-- the operand so far, read on, is what is read of the first
abbrev pub invariant-loop-operator : goal.invariant-loop-operator
invariant-loop-operator l =
    repeated cut postfix_at applied_at (term_of l.operand) l.self.rest.now ≡ repeated cut postfix_at applied_at (term_of l.fn.operand) l.fn.self.rest.now

abbrev pub decreases-loop-operator : goal.decreases-loop-operator
decreases-loop-operator l = length l.self.rest.now
