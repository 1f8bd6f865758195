use Rattle.std.proofs.Common.{List}
use Rattle.cat_tree.specs.Tree.{Clause}
use Rattle.events.specs.Structures.{structure_of}
use Rattle.slices.specs.Passing.{IsForbidden}
use Rattle.slices.specs.Reasons.{IsFatal}
use Rattle.slices.proofs.lesson.widen.Given as goal

abbrev pub invariant-loop-depth : goal.invariant-loop-depth
invariant-loop-depth l = (items : List Clause) → IsFatal items (structure_of l.walk.shown) l.reason → IsForbidden items l.walk l.fn.other.end → IsForbidden items l.walk l.widest.end
