use Rattle.std.proofs.Common.{take}
use Rattle.std.specs.Io.KnownBytes.{Appends}
use Rattle.std.specs.List.{flat_map}
use Rattle.report.specs.Texts.{flag_line}
use Rattle.report.proofs.summary.write_flags.Given as goal

abbrev pub invariant-loop-flag : goal.invariant-loop-flag
invariant-loop-flag g l = Appends (g.W.Sink.held l.initial.writer) (g.W.Sink.held l.writer) (flat_map flag_line (take l.flag-index l.flags))
