use Rattle.cat_places.specs.Blame.{NoneBroken}
use Rattle.cat_places.proofs.blame.first_broken.Given as goal

abbrev pub invariant-loop-number : goal.invariant-loop-number
invariant-loop-number l = NoneBroken l.files l.visits l.number
