use Rattle.std.proofs.Common.{take}
use Rattle.std.specs.Io.KnownBytes.{Appends}
use Rattle.std.specs.List.{flat_map}
use Rattle.report.specs.Replies.{file_text}
use Rattle.report.proofs.reply.write_files.Given as goal

abbrev pub invariant-loop-file : goal.invariant-loop-file
invariant-loop-file g l = Appends (g.W.Sink.held l.initial.writer) (g.W.Sink.held l.writer) (flat_map file_text (take l.file-index l.files))
