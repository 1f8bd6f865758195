use Rattle.std.proofs.Common.{map}
use Rattle.slices.proofs.Sets.{ArePutIn}
use Rattle.slices.proofs.state_set.insert_each.Given as goal

abbrev pub invariant-loop-row : goal.invariant-loop-row
invariant-loop-row l = ArePutIn l.initial.set.keys l.rows.keys l.row-iterator (map (λ row. row.now) l.added.items) l.set.keys
