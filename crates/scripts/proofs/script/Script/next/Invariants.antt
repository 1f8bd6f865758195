use Rattle.std.specs.Prelude.{◌≤◌, ◌-◌}
use Rattle.scripts.specs.Lines.{ahead, AreLines, Loses}
use Rattle.scripts.specs.Scripts.{AreSkipped}
use Rattle.scripts.proofs.script.Script.next.Given as goal

-- the lines so far are skipped, and counted
abbrev pub invariant-loop-self : goal.invariant-loop-self
invariant-loop-self g l = record {
  skipped : AreSkipped (ahead l.initial.self.lines.block (g.R.Source.left l.initial.reader)) (ahead l.self.lines.block (g.R.Source.left l.reader));
  lines : AreLines (ahead l.initial.self.lines.block (g.R.Source.left l.initial.reader)) l.initial.self.lines.count (ahead l.self.lines.block (g.R.Source.left l.reader)) l.self.lines.count;
  lost : Loses (ahead l.initial.self.lines.block (g.R.Source.left l.initial.reader)) (ahead l.self.lines.block (g.R.Source.left l.reader));
  counted : l.initial.self.lines.count ≤ l.self.lines.count;
}

abbrev pub decreases-loop-self : goal.decreases-loop-self
decreases-loop-self g l = 1000000 - l.self.lines.count
