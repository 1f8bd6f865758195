use Rattle.std.proofs.Common.{List, sym, subst}
use Rattle.cat_tree.specs.Tree.{Clause}
use Rattle.slices.specs.Lessons.{AreLearned}
use Rattle.slices.proofs.judged.judge.Goals as goal

pub returns-in-None-clause-learned : goal.returns-in-None-clause-learned
returns-in-None-clause-learned c s h =
    let P : List Clause → Type 0 = λ items. AreLearned s items c.judge_block.new.self.lessons → AreLearned s items c.judge_shown.new.pruner.lessons in
    subst P c.judge_block.ensures.model (c.judge_shown.ensures.learned s) (subst (AreLearned s c.args.evaluator.now.items) (sym c.judge_block.ensures.lessons) h)
