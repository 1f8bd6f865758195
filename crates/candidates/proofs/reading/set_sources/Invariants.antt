use Rattle.candidates.proofs.Sources.{IsSet}
use Rattle.candidates.proofs.reading.set_sources.Given as goal

abbrev pub invariant-loop-place : goal.invariant-loop-place
invariant-loop-place l = IsSet l.page.runs.items l.page.reads.items l.number l.place l.rf l.rest l.below
