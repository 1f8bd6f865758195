use Rattle.std.proofs.Common.{◌≡◌}
use Rattle.std.specs.Io.KnownBytes.{Keeps}
use Rattle.wb_text.proofs.sink.WriteSinkSink.give.Given as goal

-- no byte has gone so far
abbrev pub invariant-loop : goal.invariant-loop
invariant-loop g l = record {
  kept : Keeps (g.W.Write.contents l.initial.self.writer) (g.W.Write.contents l.self.writer);
  same : l.self.has_failed ≡ l.initial.self.has_failed;
}
