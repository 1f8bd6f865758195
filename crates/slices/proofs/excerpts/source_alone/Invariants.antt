use Rattle.std.proofs.Common.{◌≡◌, length}
use Rattle.slices.proofs.Refuting.{AreNobody}
use Rattle.slices.proofs.excerpts.source_alone.Given as goal

abbrev pub invariant-loop-unknown : goal.invariant-loop-unknown
invariant-loop-unknown l = record {
  nobody : AreNobody l.sources.items;
  many : length l.sources.items ≡ l._unknown;
}
