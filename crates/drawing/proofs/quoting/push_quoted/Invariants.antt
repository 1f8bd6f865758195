use Rattle.std.proofs.Common.{◌≡◌, ◌++◌, drop}
use Rattle.std.specs.Prelude.{flat_map}
use Rattle.drawing.specs.Dots.{quoted_byte}
use Rattle.drawing.proofs.quoting.push_quoted.Given as goal

abbrev pub invariant-loop-byte : goal.invariant-loop-byte
invariant-loop-byte l = l.out.items ++ flat_map quoted_byte (drop l.byte-index l.bytes) ≡ l.fn.out.items ++ flat_map quoted_byte l.bytes
