use Rattle.std.proofs.Common.{◌≡◌, length}
use Rattle.std.specs.Io.KnownBytes.{Keeps}
use Rattle.wb_text.proofs.source.ReadSourceSource.take.Given as goal

-- no byte has come so far
abbrev pub invariant-loop : goal.invariant-loop
invariant-loop g l = record {
  kept : Keeps (g.R.Read.remaining l.initial.self.reader) (g.R.Read.remaining l.self.reader);
  same : l.self.has_failed ≡ l.initial.self.has_failed;
  size : length l.into ≡ length l.initial.into;
}
