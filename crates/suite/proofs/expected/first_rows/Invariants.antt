use Rattle.std.proofs.Common.{map, reverse}
use Rattle.suite.specs.Expected.{HasFirsts}
use Rattle.suite.proofs.expected.first_rows.Given as goal

-- of the rows so far, which come from the back
abbrev pub invariant-loop-row : goal.invariant-loop-row
invariant-loop-row l = HasFirsts l.firsts (reverse (map (λ e. e.now) l.yielded))
