use Rattle.std.proofs.Common.{◌+◌, ◌*◌, max}
use Rattle.cat_model.specs.declared.sketch.Sketch.{size-Sketch}
use Rattle.cat_model.proofs.sketch.+drawing.Given as goal

abbrev pub decreases-expression : goal.decreases-expression
decreases-expression l = 2 * size-Sketch l.sketch.now

abbrev pub decreases-joined : goal.decreases-joined
decreases-joined l = 2 * max (size-Sketch l.left.now) (size-Sketch l.right.now) + 1

abbrev pub decreases-applied : goal.decreases-applied
decreases-applied l = 2 * size-Sketch l.operand.now + 1
