use Rattle.candidates.proofs.Suiting.{IsSuited}
use Rattle.candidates.proofs.reading.all_suitable.Given as goal

abbrev pub invariant-loop-place : goal.invariant-loop-place
invariant-loop-place l = IsSuited l.init l.page.runs.items l.page.reads.items l.suitable.items l.place
