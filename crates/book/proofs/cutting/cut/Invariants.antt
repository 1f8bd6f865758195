use Rattle.book.specs.Cuts.{IsBegun}
use Rattle.book.proofs.cutting.cut.Given as goal

abbrev pub invariant-loop-place : goal.invariant-loop-place
invariant-loop-place l = IsBegun l.size l.total l.place l.slices.items
