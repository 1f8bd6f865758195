use Rattle.std.proofs.Common.{◌≡◌, ◌+◌, ◌*◌, length}
use Rattle.descent.specs.Reading.{repeated}
use Rattle.litmus_syntax.specs.declared.symbol.Terminal.TheVariants.{And, Or}
use Rattle.conditions.specs.Conditions.{formula_of}
use Rattle.litmus_syntax.specs.Reading.{syntax, after, conjunction_more, conjunction_with, or_more, or_with, propositions_below}
use Rattle.litmus_syntax.proofs.syntax.Reader.+propositions.Given as goal

-- a call goes down one level, or one nesting

abbrev pub decreases-atomic : goal.decreases-atomic
decreases-atomic l = 4 * l.nesting

abbrev pub decreases-conjunction : goal.decreases-conjunction
decreases-conjunction l = 4 * l.nesting + 1

abbrev pub decreases-disjunction : goal.decreases-disjunction
decreases-disjunction l = 4 * l.nesting + 2

abbrev pub decreases-proposition : goal.decreases-proposition
decreases-proposition l = 4 * l.nesting + 3

-- what is behind the operand so far, read on, is what the level reads

abbrev pub invariant-conjunction-loop-left : goal.invariant-conjunction-loop-left
invariant-conjunction-loop-left l =
    repeated (syntax 0) (after And) (conjunction_more (propositions_below l.nesting)) (formula_of l.left) l.self.rest.now ≡ conjunction_with (propositions_below l.nesting) l.fn.self.rest.now

abbrev pub decreases-conjunction-loop-left : goal.decreases-conjunction-loop-left
decreases-conjunction-loop-left l = length l.self.rest.now

abbrev pub invariant-disjunction-loop-left : goal.invariant-disjunction-loop-left
invariant-disjunction-loop-left l =
    repeated (syntax 0) (after Or) (or_more (propositions_below l.nesting)) (formula_of l.left) l.self.rest.now ≡ or_with (propositions_below l.nesting) l.fn.self.rest.now

abbrev pub decreases-disjunction-loop-left : goal.decreases-disjunction-loop-left
decreases-disjunction-loop-left l = length l.self.rest.now
