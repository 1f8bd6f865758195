use Rattle.std.proofs.Common.{◌≡◌, ◌+◌, ◌*◌, ◌≤◌, length, map, suc}
use Rattle.cat_tree.specs.Tree.{term_of, pair_of}
use Rattle.cat_syntax.specs.Reading.{arguments_with, level_with, below}
use Rattle.cat_syntax.proofs.Levels.{chained, arguments_closed}
use Rattle.cat_syntax.proofs.reading.Reader.+expressions.Given as goal

-- a call goes down one level, or has fewer symbols before it

abbrev pub decreases-arguments : goal.decreases-arguments
decreases-arguments l = 24 * length l.self.now.rest.now

abbrev pub decreases-call : goal.decreases-call
decreases-call l = 24 * length l.self.now.rest.now

abbrev pub decreases-primary : goal.decreases-primary
decreases-primary l = 24 * length l.self.now.rest.now + 1

abbrev pub decreases-unary : goal.decreases-unary
decreases-unary l = 24 * length l.self.now.rest.now + 2

abbrev pub decreases-level : goal.decreases-level
decreases-level l = 24 * length l.self.now.rest.now + l.level + 3

-- the arguments so far, and those that follow, are what is read
abbrev pub invariant-arguments-loop-arguments : goal.invariant-arguments-loop-arguments
invariant-arguments-loop-arguments l =
    (arguments_closed l.inner (map term_of l.arguments.items) l.self.rest.now ≡ arguments_with (below l.nesting) l.fn.self.rest.now) ×
    (suc (length l.self.rest.now) ≤ length l.fn.self.rest.now)

abbrev pub decreases-arguments-loop-arguments : goal.decreases-arguments-loop-arguments
decreases-arguments-loop-arguments l = length l.self.rest.now

-- the operands so far, and what is behind the last of them, are what the level reads
abbrev pub invariant-level-loop-operator : goal.invariant-level-loop-operator
invariant-level-loop-operator l =
    (chained l.nesting l.tighter (map pair_of l.lefts.items, term_of l.last) l.self.rest.now ≡ level_with (below l.nesting) l.level l.fn.self.rest.now) ×
    (length l.self.rest.now ≤ length l.fn.self.rest.now)

abbrev pub decreases-level-loop-operator : goal.decreases-level-loop-operator
decreases-level-loop-operator l = length l.self.rest.now
