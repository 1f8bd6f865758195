use Rattle.candidates.proofs.Fitting.{Stands}
use Rattle.candidates.proofs.reading.compare.Given as goal

abbrev pub invariant-loop-read : goal.invariant-loop-read
invariant-loop-read l = Stands l.init l.page.runs.items l.reads l.number l.read-index l.start l.rest l.ways l.other
