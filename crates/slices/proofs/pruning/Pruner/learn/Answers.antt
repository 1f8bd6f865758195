use Rattle.std.proofs.Common.{sym, subst}
use Rattle.slices.specs.Lessons.{AreLearned}
use Rattle.slices.proofs.pruning.Pruner.learn.Goals as goal

pub returns-clause-learned : goal.returns-clause-learned
returns-clause-learned c s h = c.learn.ensures.learned s (subst (AreLearned s c.args.evaluator.now.items) (sym c.note.ensures.lessons) h)
