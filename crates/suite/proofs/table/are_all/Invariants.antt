use Rattle.std.proofs.Common.{◌≡◌, map, length}
use Rattle.suite.specs.Tables as texts
use Rattle.suite.proofs.table.are_all.Given as goal

abbrev pub invariant-loop-cell : goal.invariant-loop-cell
invariant-loop-cell l = texts.are_all l.text (map (λ c. c.items) l.left) ≡ texts.are_all l.text (map (λ c. c.items) l.cells)

abbrev pub decreases-loop-cell : goal.decreases-loop-cell
decreases-loop-cell l = length l.left
