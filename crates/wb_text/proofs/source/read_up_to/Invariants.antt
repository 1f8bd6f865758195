use Rattle.std.proofs.Common.{◌≡◌, ◌-◌, ◌≤◌, length, true, vec_len}
use Rattle.std.specs.Io.KnownBytes.{Consumes}
use Rattle.wb_text.proofs.source.read_up_to.Given as goal

abbrev pub invariant-loop-chunk : goal.invariant-loop-chunk
invariant-loop-chunk g l = record {
  taken : Consumes (g.S.Source.left l.initial.source) (g.S.Source.left l.source) l.bytes.items;
  at_most : vec_len l.bytes ≤ l.limit;
  size : length l.chunk ≡ 4096;
  lasting : g.S.Source.has_failed l.initial.source ≡ true → g.S.Source.has_failed l.source ≡ true;
}

abbrev pub decreases-loop-chunk : goal.decreases-loop-chunk
decreases-loop-chunk g l = l.limit - vec_len l.bytes
