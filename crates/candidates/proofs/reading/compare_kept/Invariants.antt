use Rattle.std.proofs.Common.{ℕ, List}
use Rattle.candidates.specs.Readings.{HasSuitable}
use Rattle.candidates.proofs.Fitting.{Stands}
use Rattle.candidates.proofs.reading.compare_kept.Given as goal

abbrev pub invariant-loop-place : goal.invariant-loop-place
invariant-loop-place l = (init : List ℕ) → HasSuitable init l.page → Stands init l.page.runs.items l.reads 0 l.place l.start 0 l.ways l.behind
