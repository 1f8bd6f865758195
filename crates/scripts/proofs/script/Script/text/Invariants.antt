use Rattle.std.specs.Prelude.{◌≤◌, ◌-◌}
use Rattle.scripts.specs.Lines.{ahead, AreLines, Loses}
use Rattle.scripts.proofs.Texts.{Gathered}
use Rattle.scripts.proofs.script.Script.text.Given as goal

-- what came to the text so far, and the lines that it came from
abbrev pub invariant-loop-bytes : goal.invariant-loop-bytes
invariant-loop-bytes g l = record {
  text : Gathered (ahead l.initial.self.lines.block (g.R.Source.left l.initial.reader)) (ahead l.self.lines.block (g.R.Source.left l.reader)) l.bytes.items;
  lines : AreLines (ahead l.initial.self.lines.block (g.R.Source.left l.initial.reader)) l.initial.self.lines.count (ahead l.self.lines.block (g.R.Source.left l.reader)) l.self.lines.count;
  lost : Loses (ahead l.initial.self.lines.block (g.R.Source.left l.initial.reader)) (ahead l.self.lines.block (g.R.Source.left l.reader));
  counted : l.initial.self.lines.count ≤ l.self.lines.count;
}

abbrev pub decreases-loop-bytes : goal.decreases-loop-bytes
decreases-loop-bytes g l = 1000000 - l.self.lines.count
