use Rattle.std.proofs.Common.{true}
use Rattle.cat_eval.specs.Machine.{HasMade}
use Rattle.cat_eval.specs.Plans.{Speaks}
use Rattle.cat_eval.proofs.Reaching.{Reached}
use Rattle.cat_eval.proofs.machine.Machine.judge_items_early.Given as goal

abbrev pub invariant-loop-item : goal.invariant-loop-item
invariant-loop-item l = record {
  machine : HasMade l.self l.values l.made;
  reached : (spoken : Speaks l.self.code.absent.now l.self.code.steps.now l.self.code.items.now) × Reached l.self.view.now l.self.code.steps.now l.self.code.items.now spoken.cores spoken.plan.end l.values l.item-index true l.flags.items;
}
