use Rattle.all_tests.proofs.base.sets.plain.+chain.Given as goal

abbrev pub decreases-chain : goal.decreases-chain
decreases-chain l = l.steps
