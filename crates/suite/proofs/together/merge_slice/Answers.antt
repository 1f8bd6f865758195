use Rattle.slices.proofs.Coursing.{apart}
use Rattle.suite.proofs.EachSlice.{one_more}
use Rattle.suite.proofs.together.merge_slice.Goals as goal

pub merge-requires-clause-apart : goal.merge-requires-clause-apart
merge-requires-clause-apart c = apart _ _ c.args.part c.requires.before c.requires.part.1

pub returns-clause-merged : goal.returns-clause-merged
returns-clause-merged c = one_more c.args.total c.args.slice c.args.tally.now c.merge.new.self c.args.part c.requires.before c.requires.within c.requires.part c.in-Ok.ensures.merged
