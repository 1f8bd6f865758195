use Rattle.std.proofs.Common.{map, take}
use Rattle.slices.specs.Sums.{IsWithout}
use Rattle.slices.proofs.state_set.remove_each.Given as goal

abbrev pub invariant-loop-row : goal.invariant-loop-row
invariant-loop-row l = IsWithout l.initial.set.keys (take l.row-index (map (λ row. row.now) l.rows)) l.set.keys
