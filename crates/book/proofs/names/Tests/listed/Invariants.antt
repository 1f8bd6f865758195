use Rattle.book.proofs.Listed.{TestsListed}
use Rattle.book.proofs.names.Tests.listed.Given as goal

abbrev pub invariant-loop-place : goal.invariant-loop-place
invariant-loop-place l = TestsListed l.self l.place l.listed.items
