use Rattle.std.proofs.Common.{◌≡◌, ◌+◌, ◌*◌, length}
use Rattle.descent.specs.Reading.{repeated}
use Rattle.litmus_syntax.specs.declared.symbol.Terminal.TheVariants.{RightBrace}
use Rattle.litmus_tree.specs.Tree.{no_steps, steps_of}
use Rattle.litmus_syntax.specs.Reading.{syntax, unless, steps_more, inside}
use Rattle.litmus_syntax.proofs.syntax.Reader.+statements.Given as goal

-- what stands inside nests one deeper

abbrev pub decreases-branch : goal.decreases-branch
decreases-branch l = 3 * l.nesting

abbrev pub decreases-arm : goal.decreases-arm
decreases-arm l = 3 * l.nesting + 2

abbrev pub decreases-statement : goal.decreases-statement
decreases-statement l = 3 * l.nesting + 1

abbrev pub decreases-statements : goal.decreases-statements
decreases-statements l = 3 * l.nesting + 2

-- what is behind the statements so far, read on, is what is read
abbrev pub invariant-statements-loop-self : goal.invariant-statements-loop-self
invariant-statements-loop-self l =
    repeated (syntax 0) (unless RightBrace) (steps_more (inside l.nesting) l.nesting) (steps_of l.statements.items) l.self.rest.now ≡
    repeated (syntax 0) (unless RightBrace) (steps_more (inside l.nesting) l.nesting) no_steps l.fn.self.rest.now

abbrev pub decreases-statements-loop-self : goal.decreases-statements-loop-self
decreases-statements-loop-self l = length l.self.rest.now
