use Rattle.std.proofs.Common.{◌≡◌, ◌+◌, ◌*◌, length}
use Rattle.descent.specs.Reading.{repeated}
use Rattle.litmus_tree.specs.Tree.{term_of}
use Rattle.litmus_syntax.specs.Reading.{syntax, operator_at, next_operand, operands, level_with, terms_below}
use Rattle.litmus_syntax.proofs.syntax.Reader.+expressions.Given as goal

-- a call goes down one level, or one nesting, which has all the levels

abbrev pub decreases-unary : goal.decreases-unary
decreases-unary l = 20 * l.nesting

abbrev pub decreases-level : goal.decreases-level
decreases-level l = 20 * l.nesting + 2 * l.level + 1

abbrev pub decreases-operands : goal.decreases-operands
decreases-operands l = 20 * l.nesting + 2 * l.level + 2

-- what is behind the operand so far, read on, is what the level reads
abbrev pub invariant-operands-loop-operator : goal.invariant-operands-loop-operator
invariant-operands-loop-operator l =
    repeated (syntax 0) (operator_at l.level) (next_operand (level_with (terms_below l.nesting) l.level)) (term_of l.left) l.self.rest.now ≡ operands (operator_at l.level) (level_with (terms_below l.nesting) l.level) l.fn.self.rest.now

abbrev pub decreases-operands-loop-operator : goal.decreases-operands-loop-operator
decreases-operands-loop-operator l = length l.self.rest.now
