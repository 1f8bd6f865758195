use Rattle.candidates.specs.Readings.{Misses}
use Rattle.candidates.proofs.reading.fitting.Given as goal

-- none of the sources so far has the read's value
abbrev pub invariant-loop-place : goal.invariant-loop-place
invariant-loop-place l = Misses l.init l.page.runs.items l.read l.first l.place
