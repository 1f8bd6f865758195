use Rattle.cat_eval.proofs.Held.{holds_more}
use Rattle.cat_eval.proofs.Running.{ran_none}
use Rattle.cat_eval.proofs.early.judge_early_by.Goals as goal

pub judge_items_early-judgement-requires : goal.judge_items_early-judgement-requires
judge_items_early-judgement-requires c = record {
  code = c.requires.code;
  absent = c.requires.absent;
  machine = record { graded = c.requires.code.graded; keeps = c.requires.kept; ran = ran_none c.args.view.now c.args.code.now.steps.now c.args.values.now };
}

pub returns-clause-kept : goal.returns-clause-kept
returns-clause-kept c =
    let m = c.judge_items_early-judgement.ensures.machine in
    record {
      long = m.keeps.long;
      holds = holds_more c.args.view.now c.args.code.now.steps.now c.args.code.now.bases.now c.args.kept.now c.with.result c.judge_items_early-judgement.new.values c.judge_items_early-judgement.new.made c.with.ensures.order c.with.ensures.runs c.with.ensures.sources m.ran m.keeps.holds;
    }

pub returns-clause-allowed : goal.returns-clause-allowed
returns-clause-allowed c = c.judge_items_early-judgement.ensures.allowed

pub returns-clause-flags : goal.returns-clause-flags
returns-clause-flags c = c.judge_items_early-judgement.ensures.flags
