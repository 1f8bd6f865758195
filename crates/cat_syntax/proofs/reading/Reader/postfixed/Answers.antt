use Rattle.std.proofs.Common.{arith}
use Rattle.cat_syntax.proofs.Levels.{postfix_takes}
use Rattle.cat_syntax.proofs.reading.Reader.postfixed.Goals as goal

pub loop-operator-smaller : goal.loop-operator-smaller
loop-operator-smaller c = omega (arith, postfix_takes c.loop-operator.self.rest.now c.postfix_sign.new.self.rest.now c.in-Some.operator c.in-Some.ensures)
