use Rattle.std.proofs.Common.{◌≡◌, map, take}
use Rattle.outcome.specs.Forms.{cells_of}
use Rattle.outcome.proofs.verdicts.cells_for.Given as goal

abbrev pub invariant-loop-verdict : goal.invariant-loop-verdict
invariant-loop-verdict l = map (λ c. c.items) l.cells.items ≡ cells_of (take l.verdict-index l.verdicts)
