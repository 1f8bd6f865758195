use Rattle.std.proofs.Common.{rules, arith}
use Rattle.litmus_tree.specs.Tree.{term_of}
use Rattle.litmus_syntax.proofs.Expressions.{level_takes, operator_takes, operands_more}
use Rattle.litmus_syntax.proofs.syntax.Reader.+expressions.Goals as goal

-- a turn of the loop takes a symbol, and leaves what is read

pub operands-loop-operator-smaller : goal.operands-loop-operator-smaller
operands-loop-operator-smaller t c =
    omega (arith, operator_takes c.args.level c.loop-operator.self.rest.now c.operator.new.self.rest.now c.in-Some.operator c.in-Some.ensures, level_takes c.args.nesting c.args.level c.operator.new.self.rest.now c.level-in-Some.new.self.rest.now (term_of c.in_ok-right.right) c.in_ok-right.ensures)

pub operands-loop-operator-preserved : goal.operands-loop-operator-preserved
operands-loop-operator-preserved t c = let turn = operands_more c.args.nesting c.args.level (term_of c.loop-operator.left) c.loop-operator.self.rest.now in search (rules, turn)

pub operands-returns-in_err-right : goal.operands-returns-in_err-right
operands-returns-in_err-right t c = let turn = operands_more c.args.nesting c.args.level (term_of c.loop-operator.left) c.loop-operator.self.rest.now in search (rules, turn)

pub operands-returns : goal.operands-returns
operands-returns t c = let turn = operands_more c.args.nesting c.args.level (term_of c.loop-operator.left) c.loop-operator.self.rest.now in search (rules, turn)
