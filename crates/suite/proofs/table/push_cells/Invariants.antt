use Rattle.std.proofs.Common.{◌≡◌, ◌++◌, map, length}
use Rattle.suite.specs.Tables as texts
use Rattle.suite.proofs.table.push_cells.Given as goal

abbrev pub invariant-loop-model : goal.invariant-loop-model
invariant-loop-model l =
    l.text.items ++ texts.cells_text l.blanks (map (λ m. m.items) l.left) (map (λ c. c.items) l.rest) ≡ l.initial.text.items ++ texts.cells_text l.lacking (map (λ m. m.items) l.models) (map (λ c. c.items) l.cells)

abbrev pub decreases-loop-model : goal.decreases-loop-model
decreases-loop-model l = length l.left
