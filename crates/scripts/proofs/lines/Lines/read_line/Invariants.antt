use Rattle.std.proofs.Common.{◌≡◌, ◌≤◌, ◌-◌, [], length}
use Rattle.scripts.specs.Lines.{ahead, Grows}
use Rattle.scripts.proofs.lines.Lines.read_line.Given as goal

-- what came to the line so far
abbrev pub invariant-loop-self : goal.invariant-loop-self
invariant-loop-self g l = record {
  grows : Grows (ahead l.initial.self.block (g.R.Source.left l.initial.reader)) (ahead l.self.block (g.R.Source.left l.reader)) l.initial.self.line.items l.self.line.items [];
  count : l.self.count ≡ l.initial.self.count;
  short : length l.initial.self.line.items ≤ 65536 → length l.self.line.items ≤ 65536;
}

abbrev pub decreases-loop-self : goal.decreases-loop-self
decreases-loop-self g l = 65537 - length l.self.line.items
