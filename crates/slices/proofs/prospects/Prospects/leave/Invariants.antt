use Rattle.slices.proofs.prospects.Prospects.leave.Given as goal

abbrev pub decreases-loop-self : goal.decreases-loop-self
decreases-loop-self l = l.self.entered
