use Rattle.cat_places.specs.Blame.{NoneStops}
use Rattle.cat_places.proofs.blame.first_stop.Given as goal

abbrev pub invariant-loop-number : goal.invariant-loop-number
invariant-loop-number l = NoneStops l.files l.fault l.visits l.number
