use Rattle.slices.proofs.kept_space.KeptSpace.evaluate.Goals as goal

pub refuted-requires-clause-none : goal.refuted-requires-clause-none
refuted-requires-clause-none c = c.has_refuted.ensures.none c.if-has_refuted.true
