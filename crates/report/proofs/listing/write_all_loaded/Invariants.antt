use Rattle.std.proofs.Common.{take}
use Rattle.std.specs.Io.KnownBytes.{Appends}
use Rattle.std.specs.List.{flat_map}
use Rattle.report.specs.Listings.{loaded_text}
use Rattle.report.proofs.listing.write_all_loaded.Given as goal

abbrev pub invariant-loop-loaded : goal.invariant-loop-loaded
invariant-loop-loaded g l = Appends (g.W.Sink.held l.initial.writer) (g.W.Sink.held l.writer) (flat_map (loaded_text l.word) (take l.loaded-index l.all))
