use Rattle.std.proofs.Common.{◌≡◌, ◌++◌, map, drop}
use Rattle.std.specs.String.{string_bytes}
use Rattle.places.specs.Messages.{shown}
use Rattle.places.proofs.message.push_shown.Given as goal

abbrev pub invariant-loop-byte : goal.invariant-loop-byte
invariant-loop-byte l = string_bytes l.out ++ map shown (drop l.byte-index l.bytes) ≡ string_bytes l.fn.out ++ map shown l.bytes
