use Rattle.relations.proofs.Turned.{Inserts}
use Rattle.relations.proofs.rel.Rel.insert_from.Given as goal

abbrev pub invariant-loop-left : goal.invariant-loop-left
invariant-loop-left l = Inserts l.fn.self.count l.from l.left l.to l.fn.self l.self

abbrev pub decreases-loop-left : goal.decreases-loop-left
decreases-loop-left l = l.left
