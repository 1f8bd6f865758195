use Rattle.std.proofs.Common.{take}
use Rattle.candidates.specs.Impossible.{AreGivenBy}
use Rattle.candidates.proofs.impossible.given_behind.Given as goal

abbrev pub invariant-loop-thread : goal.invariant-loop-thread
invariant-loop-thread l = AreGivenBy l.stores (take l.thread-index l.threads) l.numbers
