use Rattle.slices.proofs.Chosen.{Chosen}
use Rattle.slices.proofs.ways.choose.Given as goal

abbrev pub invariant-loop-way : goal.invariant-loop-way
invariant-loop-way l = Chosen l.ways l.number l.way-index l.left l.weight l.lasts.items
