use Rattle.std.proofs.Common.{◌≡◌, ◌-◌, List, map}
use Rattle.std.specs.Io.KnownBytes.{Appends}
use Rattle.scripts.specs.Lines.{ahead, AreLines, Loses}
use Rattle.scripts.specs.Scripts.{AreInstructions}
use Rattle.scripts.specs.Passes.{Have, IsTable}
use Rattle.scripts.specs.Serving.{Call, AreAnswered, calls_text, entries_at}
use Rattle.scripts.proofs.run.answer_all.Given as goal

abbrev pub invariant-loop-instruction : goal.invariant-loop-instruction
invariant-loop-instruction g l = record {
  reported : (calls : List Call)
      × AreAnswered (l.initial.seats.desk - 8) calls
      × Have (λ seat. entries_at seat calls) 0 l.seats.passes.items
      × Appends (g.W.Sink.held l.initial.writer) (g.W.Sink.held l.writer) (calls_text calls)
      × AreInstructions (ahead l.initial.script.lines.block (g.R.Source.left l.initial.reader)) (ahead l.script.lines.block (g.R.Source.left l.reader)) (map (λ c. c.instruction) calls);
  lines : AreLines (ahead l.initial.script.lines.block (g.R.Source.left l.initial.reader)) l.initial.script.lines.count (ahead l.script.lines.block (g.R.Source.left l.reader)) l.script.lines.count;
  left : Loses (ahead l.initial.script.lines.block (g.R.Source.left l.initial.reader)) (ahead l.script.lines.block (g.R.Source.left l.reader));
  table : IsTable l.seats.desk l.seats.passes.items;
  desk : l.seats.desk ≡ l.initial.seats.desk;
}

abbrev pub decreases-loop-instruction : goal.decreases-loop-instruction
decreases-loop-instruction g l = 1000000 - l.script.lines.count
