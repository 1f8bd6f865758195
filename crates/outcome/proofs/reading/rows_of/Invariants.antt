use Rattle.std.proofs.Common.{map, take}
use Rattle.outcome.specs.Reading.{AreRowsOf}
use Rattle.outcome.specs.Rows.{texts_of}
use Rattle.outcome.proofs.reading.rows_of.Given as goal

abbrev pub invariant-loop-place : goal.invariant-loop-place
invariant-loop-place l = AreRowsOf (take l.place (map (λ x. x.now) l.lines)) (map texts_of l.rows.items)
