use Rattle.std.proofs.Common.{take}
use Rattle.listings.specs.Lists.{ForEach}
use Rattle.candidates.specs.Impossible.{AreNeeds}
use Rattle.candidates.proofs.impossible.needs_of.Given as goal

abbrev pub invariant-loop-run : goal.invariant-loop-run
invariant-loop-run l = ForEach (λ run n. AreNeeds l.init l.stores run.events n) (take l.run-index l.runs) l.needs.items
