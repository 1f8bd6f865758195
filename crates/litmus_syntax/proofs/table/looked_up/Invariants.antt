use Rattle.std.proofs.Common.{◌≡◌, map, drop}
use Rattle.litmus_syntax.specs.Symbols.{looked_up}
use Rattle.litmus_syntax.proofs.table.looked_up.Given as goal

-- what the rest says of the bytes, all rows say
abbrev pub invariant-loop-row : goal.invariant-loop-row
invariant-loop-row g l = looked_up (map (λ r. (r.0.now, r.1)) (drop l.row-index l.rows)) l.bytes ≡ looked_up (map (λ r. (r.0.now, r.1)) l.rows) l.bytes
