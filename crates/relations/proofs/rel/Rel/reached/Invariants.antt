use Rattle.relations.specs.Relation.{In}
use Rattle.relations.proofs.Reached.{Reaches}
use Rattle.relations.proofs.rel.Rel.reached.Given as goal

abbrev pub invariant-loop-found : goal.invariant-loop-found
invariant-loop-found l = Reaches l.of.count l.i l.left l.found (In l.of)

abbrev pub decreases-loop-found : goal.decreases-loop-found
decreases-loop-found l = l.left
